use Rattle.std.proofs.Common.{refl, sym, ap, ◌∙◌, subst}
use Rattle.dc_base.specs.declared.actions.Action.TheVariants as action
use Rattle.dc_base.specs.declared.actions.Actor.TheVariants as actor
use Rattle.dc_base.specs.Cores.{core_step}
use Rattle.dc_base.specs.States.{State, Script}
use Rattle.dc_base.specs.Turns.{Outcome}
use Rattle.dc_bodies.specs.declared.stops.Stepped.TheVariants as stepped
use Rattle.dc_objects.specs.States.{state_of}
use Rattle.dc_machine.specs.Answers.{Answers, polls_then}
use Rattle.dc_machine.proofs.Bodies.{awaited_step, polled_step}
use Rattle.dc_machine.proofs.OrderFacts.{read_at}
use Rattle.dc_machine.proofs.commands.poll.Goals as goal

pub returns-in-Ok-clause-step : goal.returns-in-Ok-clause-step
returns-in-Ok-clause-step g c =
    let s = state_of c.args.objects.now in
    let p = c.args.polls.now in
    let there = read_at s.consoles c.args.b.0 c.index-console.result.now c.requires.block c.index-console.ensures in
    let is = awaited_step s c.await_held.new.script c.in-Ok.entry p (c.in-Ok.ensures.over.0 s refl there) in
    subst (λ (o : Outcome). Answers (stepped.Did c.in-Ok.entry) s (record s { script = c.await_held.new.script }) o) (sym is) (refl, refl)

pub returns-in-Ok-clause-polls : goal.returns-in-Ok-clause-polls
returns-in-Ok-clause-polls g c =
    let s = state_of c.args.objects.now in
    let p = c.args.polls.now in
    let there = read_at s.consoles c.args.b.0 c.index-console.result.now c.requires.block c.index-console.ensures in
    let is = awaited_step s c.await_held.new.script c.in-Ok.entry p (c.in-Ok.ensures.over.0 s refl there) in
    c.in-Ok.ensures.over.1 ∙ sym (ap (polls_then action.Script p) is)

pub returns-in-Err-clause-step : goal.returns-in-Err-clause-step
returns-in-Err-clause-step g c =
    let s = state_of c.args.objects.now in
    let p = c.args.polls.now in
    let there = read_at s.consoles c.args.b.0 c.index-console.result.now c.requires.block c.index-console.ensures in
    let is = polled_step s c.in-Err.why p (c.in-Err.ensures.poll.0 s refl there) in
    subst (λ (t : Script). Answers (stepped.NotEnabled c.in-Err.why) s (record s { script = t }) (core_step s p actor.Script action.Script)) (sym c.in-Err.ensures.poll.2)
    (subst (λ (o : Outcome). Answers (stepped.NotEnabled c.in-Err.why) s s o) (sym is) (refl, refl))

pub returns-in-Err-clause-polls : goal.returns-in-Err-clause-polls
returns-in-Err-clause-polls g c =
    let s = state_of c.args.objects.now in
    let p = c.args.polls.now in
    let there = read_at s.consoles c.args.b.0 c.index-console.result.now c.requires.block c.index-console.ensures in
    let is = polled_step s c.in-Err.why p (c.in-Err.ensures.poll.0 s refl there) in
    c.in-Err.ensures.poll.1 ∙ sym (ap (polls_then action.Script p) is)
