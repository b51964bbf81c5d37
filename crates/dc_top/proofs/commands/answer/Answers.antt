use Rattle.std.proofs.Common.{◌≡◌, Option, Some, rules, subst, sym}
use Rattle.dc_top.specs.Requests.{Request, RequestTold, asked, play, run}
use Rattle.dc_top.proofs.commands.answer.Goals as goal

pub returns-in-Some-Play-clause-headline : goal.returns-in-Some-Play-clause-headline
returns-in-Some-Play-clause-headline g c =
    let is : asked c.args.request ≡ Some (play c.in-Some-Play.image.now c.in-Some-Play.script.now c.in-Some-Play.schedule.now) = search rules in
    λ is_0.
    subst (λ (r : Option Request). RequestTold (g.H.Shelf.told c.args.shelf.now) (g.S.Sink.told c.args.sink.now) (g.S.Sink.told c.play_call.new.sink) r) (sym is)
    (c.play_call.ensures.headline is_0)

pub returns-in-Some-Run-clause-headline : goal.returns-in-Some-Run-clause-headline
returns-in-Some-Run-clause-headline g c =
    let is : asked c.args.request ≡ Some (run c.in-Some-Run.image.now c.in-Some-Run.script.now) = search rules in
    λ is_0.
    subst (λ (r : Option Request). RequestTold (g.H.Shelf.told c.args.shelf.now) (g.S.Sink.told c.args.sink.now) (g.S.Sink.told c.run_call.new.sink) r) (sym is)
    (c.run_call.ensures.headline is_0)
