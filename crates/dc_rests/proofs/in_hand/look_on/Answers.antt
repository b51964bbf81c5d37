use Rattle.std.proofs.Common.{ap, sym, subst}
use Rattle.dc_logs.specs.Marks.{IsLogOf}
use Rattle.dc_rounds.proofs.Looked.{looked_on}
use Rattle.dc_rests.proofs.InHand.{script_seen}
use Rattle.dc_rests.proofs.in_hand.look_on.Goals as goal

pub returns-clause-work : goal.returns-clause-work
returns-clause-work c =
    let st = c.args.stage.now in
    let k = c.args.pass.now in
    let l = c.look.new.pass in
    let on = looked_on st c.requires.opened k l.seen c.look.ensures.more in
    record {
      hand = script_seen st c.requires.opened k l c.args.hand.now c.look.ensures.same on c.requires.work.hand;
      log = subst (λ a. IsLogOf a l.seen c.args.log.now.entries) (sym (ap (λ p. p.actor) c.look.ensures.same))
          (c.logs_stay.ensures k.actor k.seen l.seen c.args.log.now.entries on.sees on.mine c.requires.work.log);
    }
