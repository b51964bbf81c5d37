use Rattle.std.proofs.Common.{[], subst}
use Rattle.dc_base.specs.declared.actions.Action.TheVariants as action
use Rattle.dc_base.specs.declared.commands.ScriptLine.{ScriptLine}
use Rattle.dc_base.specs.declared.entries.Reason.TheVariants as reason
use Rattle.dc_bodies.proofs.CommandTurns.{no_raise}
use Rattle.dc_bodies.specs.Scripted.{GoesOn}
use Rattle.dc_hands.specs.Machines.{state_after}
use Rattle.dc_script_turns.specs.Scripting.{IsNoAwait}
use Rattle.dc_script_turns.proofs.ScriptEntries.{refuses_step}
use Rattle.dc_script_turns.proofs.ScriptSteps.{acts_none, begun, stays}
use Rattle.dc_script_turns.proofs.commands.plain_command.Goals as goal

pub boot_turn-requires-clause-goes : goal.boot_turn-requires-clause-goes
boot_turn-requires-clause-goes g c κs within =
    subst (λ (y : ScriptLine). GoesOn c.args.hand.now.script y) c.in-Boot.is c.requires.goes

pub route-requires-clause-goes : goal.route-requires-clause-goes
route-requires-clause-goes g c κs within =
    subst (λ (y : ScriptLine). GoesOn c.args.hand.now.script y) c.in-Route.is c.requires.goes

pub unreachable-requires : goal.unreachable-requires
unreachable-requires g c =
    subst IsNoAwait c.in-Await.is c.requires.plain

pub returns-in-Raise : goal.returns-in-Raise
returns-in-Raise g c =
    let st = c.args.stage.now in
    let k = c.args.pass.now in
    let h = c.args.hand.now in
    let t = h.script in
    let b = begun st c.requires.opened k h c.requires.hand in
    let v = state_after st k.seen in
    let goes = subst (λ (y : ScriptLine). GoesOn t y) c.in-Raise.is c.requires.goes in
    acts_none st k k h action.Script reason.ScriptEnded (stays st k t [] b) c.requires.hand.polls
    (refuses_step v action.Script reason.ScriptEnded (no_raise t c.in-Raise.field-0 goes v c.requires.hand.script) h.polls) tt
