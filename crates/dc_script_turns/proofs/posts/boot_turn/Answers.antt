use Rattle.std.proofs.Common.{[]}
use Rattle.dc_base.specs.declared.actions.Action.TheVariants as action
use Rattle.dc_hands.specs.Machines.{state_after}
use Rattle.dc_script_turns.proofs.ScriptEntries.{refuses_step}
use Rattle.dc_script_turns.proofs.ScriptPosts.{accepted_now}
use Rattle.dc_script_turns.proofs.ScriptSteps.{acts_none, begun, stays}
use Rattle.dc_script_turns.proofs.posts.boot_turn.Goals as goal

pub next_posting-requires-clause-accepted : goal.next_posting-requires-clause-accepted
next_posting-requires-clause-accepted g c =
    let st = c.args.stage.now in
    let k = c.args.pass.now in
    let h = c.args.hand.now in
    let t = h.script in
    accepted_now st c.requires.opened k c.requires.hand.lawful t c.requires.hand.script c.args.command.now c.requires.goes

pub returns-in-Err : goal.returns-in-Err
returns-in-Err g c =
    let st = c.args.stage.now in
    let k = c.args.pass.now in
    let h = c.args.hand.now in
    let t = h.script in
    let b = begun st c.requires.opened k h c.requires.hand in
    let v = state_after st k.seen in
    acts_none st k k h action.Script c.in-Err.why (stays st k t [] b) c.requires.hand.polls
    (refuses_step v action.Script c.in-Err.why (c.in-Err.ensures.none v c.requires.hand.script) h.polls) c.in-Err.ensures.quiet
