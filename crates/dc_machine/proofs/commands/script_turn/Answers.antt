use Rattle.std.proofs.Common.{refl}
use Rattle.dc_base.specs.declared.actions.Action.TheVariants as action
use Rattle.dc_base.specs.declared.actions.Actor.TheVariants as actor
use Rattle.dc_base.specs.Cores.{core_step}
use Rattle.dc_objects.specs.States.{state_of}
use Rattle.dc_machine.proofs.Bodies.{none_answers, none_step}
use Rattle.dc_machine.proofs.ScriptTurns.{unchanged}
use Rattle.dc_machine.proofs.commands.script_turn.Goals as goal

pub returns-in-Err-clause-step : goal.returns-in-Err-clause-step
returns-in-Err-clause-step g c =
    let s = state_of c.args.objects.now in
    none_answers s actor.Script action.Script c.in-Err.why (c.in-Err.ensures.none s refl) c.args.polls.now

pub returns-in-Err-clause-polls : goal.returns-in-Err-clause-polls
returns-in-Err-clause-polls g c =
    let s = state_of c.args.objects.now in
    let p = c.args.polls.now in
    unchanged action.Script p c.in-Err.why (core_step s p actor.Script action.Script) (none_step s actor.Script action.Script c.in-Err.why (c.in-Err.ensures.none s refl) p) c.in-Err.ensures.quiet
