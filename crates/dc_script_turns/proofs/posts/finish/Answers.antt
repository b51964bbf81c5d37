use Rattle.std.proofs.Common.{[], ◌∷◌, Some, refl, ap, ◌∙◌}
use Rattle.dc_base.specs.declared.actions.Action.TheVariants as action
use Rattle.dc_base.specs.Changes.{a_mailbox, mailbox, mailbox_becomes, script_becomes, the_script}
use Rattle.dc_hands.specs.Machines.{state_after}
use Rattle.dc_script_turns.proofs.ScriptApart.{apart_alone, turn_two}
use Rattle.dc_script_turns.proofs.ScriptLooks.{done_looks}
use Rattle.dc_script_turns.proofs.ScriptMakes.{by_pass, enters_now, held_now, lawful_now, made_now, makes_done, quiet_now}
use Rattle.dc_script_turns.proofs.ScriptPosts.{posted_at}
use Rattle.dc_script_turns.proofs.ScriptSteps.{acts_did, kept_mailbox, kept_script, leaves, stays}
use Rattle.dc_hands.proofs.Seeing.{sees_now}
use Rattle.dc_script_turns.proofs.ScriptEntries.{plain_at}
use Rattle.dc_base.specs.declared.commands.ScriptLine.TheVariants as line
use Rattle.dc_script_turns.proofs.posts.finish.Goals as goal

pub commit-ticket-requires-clause-actor : goal.commit-ticket-requires-clause-actor
commit-ticket-requires-clause-actor g c κs within =
    let st = c.args.stage.now in
    let k = c.args.pass.now in
    let h = c.args.hand.now in
    let t = h.script in
    let b = c.requires.holds in
    let n = a_mailbox c.args.last.0 in
    let m = c.args.emptied in
    let there = c.requires.mailbox in
    let u = c.done_held-entry.new.script in
    let x = c.done_held-entry.new.emptied in
    let e = c.done_held-entry.result in
    let chs = mailbox_becomes c.args.last.0 x ∷ script_becomes u ∷ [] in
    let makes = makes_done st k t u (n ∷ []) b h.polls e c.args.last.0 m there x c.done_held-entry.ensures in
    let acked = kept_mailbox st k k.seen (sees_now st k) c.args.last.0 m there ∙ ap Some c.requires.acked in
    by_pass st k t (n ∷ []) b h.polls action.Script chs e makes

pub commit-ticket-requires-clause-lawful : goal.commit-ticket-requires-clause-lawful
commit-ticket-requires-clause-lawful g c κs within =
    let st = c.args.stage.now in
    let k = c.args.pass.now in
    let h = c.args.hand.now in
    let t = h.script in
    let b = c.requires.holds in
    let n = a_mailbox c.args.last.0 in
    let m = c.args.emptied in
    let there = c.requires.mailbox in
    let u = c.done_held-entry.new.script in
    let x = c.done_held-entry.new.emptied in
    let e = c.done_held-entry.result in
    let chs = mailbox_becomes c.args.last.0 x ∷ script_becomes u ∷ [] in
    let makes = makes_done st k t u (n ∷ []) b h.polls e c.args.last.0 m there x c.done_held-entry.ensures in
    let acked = kept_mailbox st k k.seen (sees_now st k) c.args.last.0 m there ∙ ap Some c.requires.acked in
    lawful_now st k t (n ∷ []) b h.polls action.Script chs e makes

pub commit-ticket-requires-clause-held : goal.commit-ticket-requires-clause-held
commit-ticket-requires-clause-held g c κs within =
    let st = c.args.stage.now in
    let k = c.args.pass.now in
    let h = c.args.hand.now in
    let t = h.script in
    let b = c.requires.holds in
    let n = a_mailbox c.args.last.0 in
    let m = c.args.emptied in
    let there = c.requires.mailbox in
    let u = c.done_held-entry.new.script in
    let x = c.done_held-entry.new.emptied in
    let e = c.done_held-entry.result in
    let chs = mailbox_becomes c.args.last.0 x ∷ script_becomes u ∷ [] in
    let makes = makes_done st k t u (n ∷ []) b h.polls e c.args.last.0 m there x c.done_held-entry.ensures in
    let acked = kept_mailbox st k k.seen (sees_now st k) c.args.last.0 m there ∙ ap Some c.requires.acked in
    held_now st k t (n ∷ []) b h.polls action.Script chs e makes (the_script ∷ n ∷ [])
    (λ f. done_looks (state_after st k.seen) t (kept_script st k k.seen (sees_now st k) t b.stands) f c.args.last acked (c.args.command.now, c.requires.next))
    (λ a i. turn_two a the_script n i)

pub put_mailbox-requires-clause-held : goal.put_mailbox-requires-clause-held
put_mailbox-requires-clause-held g c κs within =
    let st = c.args.stage.now in
    let k = c.args.pass.now in
    let h = c.args.hand.now in
    let t = h.script in
    let b = c.requires.holds in
    let n = a_mailbox c.args.last.0 in
    let m = c.args.emptied in
    let there = c.requires.mailbox in
    let u = c.done_held-entry.new.script in
    let x = c.done_held-entry.new.emptied in
    let e = c.done_held-entry.result in
    let chs = mailbox_becomes c.args.last.0 x ∷ script_becomes u ∷ [] in
    let makes = makes_done st k t u (n ∷ []) b h.polls e c.args.last.0 m there x c.done_held-entry.ensures in
    made_now st k t (n ∷ []) b h.polls action.Script chs e makes c.commit-ticket.new.pass c.commit-ticket.result.0 c.commit-ticket.ensures n (mailbox m) (mailbox x) there
    (posted_at (state_after st k.seen) u c.args.last.0 m x (kept_mailbox st k k.seen (sees_now st k) c.args.last.0 m there))

pub returns : goal.returns
returns g c =
    let st = c.args.stage.now in
    let k = c.args.pass.now in
    let h = c.args.hand.now in
    let t = h.script in
    let b = c.requires.holds in
    let n = a_mailbox c.args.last.0 in
    let m = c.args.emptied in
    let there = c.requires.mailbox in
    let u = c.done_held-entry.new.script in
    let x = c.done_held-entry.new.emptied in
    let e = c.done_held-entry.result in
    let chs = mailbox_becomes c.args.last.0 x ∷ script_becomes u ∷ [] in
    let makes = makes_done st k t u (n ∷ []) b h.polls e c.args.last.0 m there x c.done_held-entry.ensures in
    let p = c.commit-ticket.new.pass in
    let q = c.put_mailbox.new.pass in
    let made = enters_now st k t (n ∷ []) b h.polls action.Script chs e makes p c.commit-ticket.result.0 c.commit-ticket.ensures k u (stays st k t (n ∷ []) b) refl in
    acts_did st k q h (record h { script = u }) action.Script e c.commit-ticket.result
    (leaves st k p q u n [] h.polls action.Script e c.commit-ticket.result.0 made (apart_alone st n there.within (λ e. cc)) c.put_mailbox.ensures) refl c.requires.few
    (quiet_now st k t (n ∷ []) b h.polls action.Script chs e makes (plain_at (state_after st k.seen) t (kept_script st k k.seen (sees_now st k) t b.stands) (line.Boot c.args.command.now) c.requires.next.goes tt))
