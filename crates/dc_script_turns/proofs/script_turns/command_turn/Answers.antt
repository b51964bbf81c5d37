use Rattle.std.proofs.Common.{[], refl, sym}
use Rattle.dc_base.specs.declared.actions.Action.TheVariants as action
use Rattle.dc_hands.specs.Machines.{state_after}
use Rattle.dc_script_turns.proofs.ScriptCounts.{counts_none, quiet_at}
use Rattle.dc_script_turns.proofs.ScriptEntries.{refuses_step}
use Rattle.dc_script_turns.proofs.ScriptSteps.{begun, stays}
use Rattle.dc_script_turns.proofs.script_turns.command_turn.Goals as goal

pub returns-in-Err : goal.returns-in-Err
returns-in-Err g c =
    let st = c.args.stage.now in
    let k = c.args.pass.now in
    let h = c.args.hand.now in
    let t = h.script in
    let b = begun st c.requires.opened k h c.requires.hand in
    let v = state_after st k.seen in
    let why = c.in-Err.why in
    counts_none st k k h h why (stays st k t [] b) refl (refuses_step v action.Script why (c.in-Err.ensures.none v c.requires.hand.script) h.polls)
    (sym (quiet_at why h.polls c.in-Err.ensures.quiet)) c.requires.hand.polls
