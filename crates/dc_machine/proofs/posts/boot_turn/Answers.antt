use Rattle.std.proofs.Common.{refl}
use Rattle.dc_base.specs.declared.actions.Action.TheVariants as action
use Rattle.dc_base.specs.declared.actions.Actor.TheVariants as actor
use Rattle.dc_objects.specs.States.{state_of}
use Rattle.dc_machine.proofs.Bodies.{did_answers, none_answers}
use Rattle.dc_machine.proofs.Postings.{accepted}
use Rattle.dc_machine.proofs.posts.boot_turn.Goals as goal

pub next_posting-requires-clause-accepted : goal.next_posting-requires-clause-accepted
next_posting-requires-clause-accepted g c = accepted (state_of c.args.objects.now) c.requires.sound c.args.command.now c.requires.goes

pub returns-in-Err-clause-step : goal.returns-in-Err-clause-step
returns-in-Err-clause-step g c polls =
    let s = state_of c.args.objects.now in
    none_answers s actor.Script action.Script c.in-Err.why (c.in-Err.ensures.none s refl) polls

pub returns-in-Refused-clause-step : goal.returns-in-Refused-clause-step
returns-in-Refused-clause-step g c polls =
    let s = state_of c.args.objects.now in
    did_answers s actor.Script action.Script _ c.refuse_held.result (c.refuse_held.ensures s refl) polls
