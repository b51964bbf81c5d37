use Rattle.std.proofs.Common.{[]}
use Rattle.dc_base.specs.declared.actions.Action.TheVariants as action
use Rattle.dc_hands.specs.declared.answers.Turned.TheVariants as turned
use Rattle.dc_hands.specs.Machines.{state_after}
use Rattle.dc_script_turns.proofs.ScriptCounts.{answers_quiet}
use Rattle.dc_script_turns.proofs.ScriptEntries.{refuses_step}
use Rattle.dc_script_turns.proofs.ScriptSteps.{begun, fails, stays}
use Rattle.dc_script_turns.proofs.script_turns.poll_on.Goals as goal

pub returns-in-Err-clause-turn : goal.returns-in-Err-clause-turn
returns-in-Err-clause-turn g c =
    let st = c.args.stage.now in
    let k = c.args.pass.now in
    let h = c.args.hand.now in
    let t = h.script in
    let b = begun st c.requires.opened k h c.requires.hand in
    let v = state_after st k.seen in
    let why = c.in-Err.why in
    answers_quiet st k k h h (turned.NotEnabled why) c.args.most c.in-Err.ensures.quiet
    (fails st k k t [] h.polls action.Script why (stays st k t [] b) (refuses_step v action.Script why (c.in-Err.ensures.none v c.requires.hand.script) h.polls))
