use Rattle.std.proofs.Common.{◌≤◌, [], arith, subst, sym}
use Rattle.std.proofs.lemmas.Bool.Decides.{nat_tests}
use Rattle.dc_base.specs.declared.actions.Action.TheVariants as action
use Rattle.dc_base.specs.declared.entries.Reason.TheVariants as reason
use Rattle.dc_base.specs.States.{Script}
use Rattle.dc_bodies.proofs.CommandTurns.{no_mailbox}
use Rattle.dc_bodies.specs.declared.posts.Posting.TheVariants as posting
use Rattle.dc_bodies.specs.Postings.{ComesTo}
use Rattle.dc_hands.specs.Machines.{state_after}
use Rattle.dc_script_turns.proofs.ScriptEntries.{refuses_step}
use Rattle.dc_script_turns.proofs.ScriptPosts.{no_mailbox_past}
use Rattle.dc_script_turns.proofs.ScriptSteps.{acts_none, begun, stays}
use Rattle.dc_script_turns.proofs.posts.go_on.Goals as goal

pub returns-then-last-cores : goal.returns-then-last-cores
returns-then-last-cores g c =
    let st = c.args.stage.now in
    let k = c.args.pass.now in
    let h = c.args.hand.now in
    let t = h.script in
    let b = begun st c.requires.opened k h c.requires.hand in
    let v = state_after st k.seen in
    let scene = c.scene.ensures in
    let cores = c.cores.ensures in
    let past = c.if-last-cores.true in
    let far : st.scene.settings.cores ≤ c.args.last.0 = grind (arith, nat_tests) in
    let comes = subst (λ (f : Script). ComesTo f (posting.After c.args.last c.args.next)) (sym c.requires.hand.script) (c.args.command.now, c.requires.next) in
    acts_none st k k h action.Script (reason.NoAck c.args.last) (stays st k t [] b) c.requires.hand.polls
    (refuses_step v action.Script (reason.NoAck c.args.last) (no_mailbox v c.args.last c.args.next comes (no_mailbox_past st c.requires.opened k c.args.last.0 far)) h.polls) tt
