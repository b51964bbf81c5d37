use Rattle.std.proofs.Common.{[], ◌∷◌, Some, refl, ap, ◌∙◌, inl, inr}
use Rattle.dc_base.specs.declared.actions.Action.TheVariants as action
use Rattle.dc_base.specs.declared.actions.Actor.TheVariants as actor
use Rattle.dc_base.specs.Changes.{a_mailbox, mailbox, mailbox_becomes, script_becomes, the_script}
use Rattle.dc_base.specs.Cores.{turn_of}
use Rattle.dc_base.specs.Turns.{looks}
use Rattle.dc_hands.specs.Machines.{number_of, state_after}
use Rattle.dc_hands.proofs.HeldNames.{other_number}
use Rattle.dc_script_turns.proofs.ScriptApart.{apart_alone, apart_two, free_of, turn_three}
use Rattle.dc_script_turns.proofs.ScriptLooks.{next_looks}
use Rattle.dc_script_turns.proofs.ScriptMakes.{by_pass, enters_now, held_now, lawful_now, made_now, makes_next, quiet_now}
use Rattle.dc_script_turns.proofs.ScriptPosts.{emptied_at, next_at, next_within}
use Rattle.dc_script_turns.proofs.ScriptSteps.{acts_busy, acts_did, kept_mailbox, kept_script, leaves, misses, puts, refused_at, state_put, takes}
use Rattle.dc_hands.proofs.Seeing.{has_beside, has_left, has_missed, has_taken, sees_now}
use Rattle.dc_script_turns.proofs.ScriptEntries.{plain_at}
use Rattle.dc_base.specs.declared.commands.ScriptLine.TheVariants as line
use Rattle.dc_script_turns.proofs.posts.post_other.Goals as goal

pub take_mailbox-requires-clause-within : goal.take_mailbox-requires-clause-within
take_mailbox-requires-clause-within g c κs within =
    let st = c.args.stage.now in
    let k = c.args.pass.now in
    let h = c.args.hand.now in
    let t = h.script in
    let b = c.requires.holds in
    let n = a_mailbox c.args.core.0 in
    let d = a_mailbox c.args.last.0 in
    let y = c.args.emptied in
    let hd = c.requires.mailbox in
    let acked = kept_mailbox st k k.seen (sees_now st k) c.args.last.0 y hd ∙ ap Some c.requires.acked in
    let w = next_within st c.requires.opened k b.lawful t (kept_script st k k.seen (sees_now st k) t b.stands) c.args.last c.args.core c.args.order c.requires.next acked in
    w

pub take_mailbox-requires-clause-free : goal.take_mailbox-requires-clause-free
take_mailbox-requires-clause-free g c κs within =
    let st = c.args.stage.now in
    let k = c.args.pass.now in
    let h = c.args.hand.now in
    let t = h.script in
    let b = c.requires.holds in
    let n = a_mailbox c.args.core.0 in
    let d = a_mailbox c.args.last.0 in
    let y = c.args.emptied in
    let hd = c.requires.mailbox in
    let acked = kept_mailbox st k k.seen (sees_now st k) c.args.last.0 y hd ∙ ap Some c.requires.acked in
    let w = next_within st c.requires.opened k b.lawful t (kept_script st k k.seen (sees_now st k) t b.stands) c.args.last c.args.core c.args.order c.requires.next acked in
    let far = apart_two st n d w hd.within (λ e. cc) (λ e. c.requires.other cc) in
    free_of st k t n (d ∷ []) b far

pub returns-in-Err : goal.returns-in-Err
returns-in-Err g c =
    let st = c.args.stage.now in
    let k = c.args.pass.now in
    let h = c.args.hand.now in
    let t = h.script in
    let b = c.requires.holds in
    let n = a_mailbox c.args.core.0 in
    let d = a_mailbox c.args.last.0 in
    let y = c.args.emptied in
    let hd = c.requires.mailbox in
    let acked = kept_mailbox st k k.seen (sees_now st k) c.args.last.0 y hd ∙ ap Some c.requires.acked in
    let w = next_within st c.requires.opened k b.lawful t (kept_script st k k.seen (sees_now st k) t b.stands) c.args.last c.args.core c.args.order c.requires.next acked in
    let l = c.take_mailbox.new.pass in
    let busy = c.in-Err.busy in
    let miss = c.in-Err.ensures.busy in
    let r = misses st k t (d ∷ []) b l n busy miss in
    let hl = has_missed st k l n d busy (mailbox y) miss hd in
    let q = c.put_mailbox.new.pass in
    let s = puts st k l q t d [] ((busy.object, busy.by) ∷ k.refused) r (apart_alone st d hd.within (λ e. cc)) c.put_mailbox.ensures in
    let acked_l = kept_mailbox st l l.seen (sees_now st l) c.args.last.0 y hl ∙ ap Some c.requires.acked in
    let look = next_looks (state_after st l.seen) t (kept_script st l l.seen (sees_now st l) t r.holds.stands) (λ f. h.polls) c.args.last acked_l c.args.core c.args.order c.requires.next in
    acts_busy st k q h action.Script busy s c.requires.few
    (refused_at st k k l q t [] h.polls action.Script busy n (the_script ∷ d ∷ n ∷ []) s miss refl
    (ap (λ v. looks v (turn_of (λ f. h.polls) actor.Script action.Script)) (state_put st l q (number_of st d) c.put_mailbox.ensures) ∙ look) (inr (inr (inl refl))))

pub commit-ticket-requires-clause-actor : goal.commit-ticket-requires-clause-actor
commit-ticket-requires-clause-actor g c κs within =
    let st = c.args.stage.now in
    let k = c.args.pass.now in
    let h = c.args.hand.now in
    let t = h.script in
    let b = c.requires.holds in
    let n = a_mailbox c.args.core.0 in
    let d = a_mailbox c.args.last.0 in
    let y = c.args.emptied in
    let hd = c.requires.mailbox in
    let acked = kept_mailbox st k k.seen (sees_now st k) c.args.last.0 y hd ∙ ap Some c.requires.acked in
    let w = next_within st c.requires.opened k b.lawful t (kept_script st k k.seen (sees_now st k) t b.stands) c.args.last c.args.core c.args.order c.requires.next acked in
    let l = c.take_mailbox.new.pass in
    let m = c.in-Ok.mailbox in
    let got = c.in-Ok.ensures.got in
    let r = takes st k t (d ∷ []) b l n (mailbox m) got in
    let hl = has_beside st k l n d (mailbox m) (mailbox y) got hd in
    let there = has_taken st k l n (mailbox m) got w in
    let u = c.post_next_held-entry.new.script in
    let z = c.post_next_held-entry.new.emptied in
    let x = c.post_next_held-entry.new.mailbox in
    let e = c.post_next_held-entry.result in
    let chs = mailbox_becomes c.args.last.0 z ∷ mailbox_becomes c.args.core.0 x ∷ script_becomes u ∷ [] in
    let makes = makes_next st l t u (n ∷ d ∷ []) r.holds h.polls e c.args.last.0 y hl c.args.core.0 z x c.post_next_held-entry.ensures in
    let acked_l = kept_mailbox st l l.seen (sees_now st l) c.args.last.0 y hl ∙ ap Some c.requires.acked in
    by_pass st l t (n ∷ d ∷ []) r.holds h.polls action.Script chs e makes

pub commit-ticket-requires-clause-lawful : goal.commit-ticket-requires-clause-lawful
commit-ticket-requires-clause-lawful g c κs within =
    let st = c.args.stage.now in
    let k = c.args.pass.now in
    let h = c.args.hand.now in
    let t = h.script in
    let b = c.requires.holds in
    let n = a_mailbox c.args.core.0 in
    let d = a_mailbox c.args.last.0 in
    let y = c.args.emptied in
    let hd = c.requires.mailbox in
    let acked = kept_mailbox st k k.seen (sees_now st k) c.args.last.0 y hd ∙ ap Some c.requires.acked in
    let w = next_within st c.requires.opened k b.lawful t (kept_script st k k.seen (sees_now st k) t b.stands) c.args.last c.args.core c.args.order c.requires.next acked in
    let l = c.take_mailbox.new.pass in
    let m = c.in-Ok.mailbox in
    let got = c.in-Ok.ensures.got in
    let r = takes st k t (d ∷ []) b l n (mailbox m) got in
    let hl = has_beside st k l n d (mailbox m) (mailbox y) got hd in
    let there = has_taken st k l n (mailbox m) got w in
    let u = c.post_next_held-entry.new.script in
    let z = c.post_next_held-entry.new.emptied in
    let x = c.post_next_held-entry.new.mailbox in
    let e = c.post_next_held-entry.result in
    let chs = mailbox_becomes c.args.last.0 z ∷ mailbox_becomes c.args.core.0 x ∷ script_becomes u ∷ [] in
    let makes = makes_next st l t u (n ∷ d ∷ []) r.holds h.polls e c.args.last.0 y hl c.args.core.0 z x c.post_next_held-entry.ensures in
    let acked_l = kept_mailbox st l l.seen (sees_now st l) c.args.last.0 y hl ∙ ap Some c.requires.acked in
    lawful_now st l t (n ∷ d ∷ []) r.holds h.polls action.Script chs e makes

pub commit-ticket-requires-clause-held : goal.commit-ticket-requires-clause-held
commit-ticket-requires-clause-held g c κs within =
    let st = c.args.stage.now in
    let k = c.args.pass.now in
    let h = c.args.hand.now in
    let t = h.script in
    let b = c.requires.holds in
    let n = a_mailbox c.args.core.0 in
    let d = a_mailbox c.args.last.0 in
    let y = c.args.emptied in
    let hd = c.requires.mailbox in
    let acked = kept_mailbox st k k.seen (sees_now st k) c.args.last.0 y hd ∙ ap Some c.requires.acked in
    let w = next_within st c.requires.opened k b.lawful t (kept_script st k k.seen (sees_now st k) t b.stands) c.args.last c.args.core c.args.order c.requires.next acked in
    let l = c.take_mailbox.new.pass in
    let m = c.in-Ok.mailbox in
    let got = c.in-Ok.ensures.got in
    let r = takes st k t (d ∷ []) b l n (mailbox m) got in
    let hl = has_beside st k l n d (mailbox m) (mailbox y) got hd in
    let there = has_taken st k l n (mailbox m) got w in
    let u = c.post_next_held-entry.new.script in
    let z = c.post_next_held-entry.new.emptied in
    let x = c.post_next_held-entry.new.mailbox in
    let e = c.post_next_held-entry.result in
    let chs = mailbox_becomes c.args.last.0 z ∷ mailbox_becomes c.args.core.0 x ∷ script_becomes u ∷ [] in
    let makes = makes_next st l t u (n ∷ d ∷ []) r.holds h.polls e c.args.last.0 y hl c.args.core.0 z x c.post_next_held-entry.ensures in
    let acked_l = kept_mailbox st l l.seen (sees_now st l) c.args.last.0 y hl ∙ ap Some c.requires.acked in
    held_now st l t (n ∷ d ∷ []) r.holds h.polls action.Script chs e makes (the_script ∷ d ∷ n ∷ [])
    (λ f. next_looks (state_after st l.seen) t (kept_script st l l.seen (sees_now st l) t r.holds.stands) f c.args.last acked_l c.args.core c.args.order c.requires.next)
    (λ a i. turn_three a the_script d n i)

pub put_mailbox-requires-2-clause-held : goal.put_mailbox-requires-2-clause-held
put_mailbox-requires-2-clause-held g c κs within =
    let st = c.args.stage.now in
    let k = c.args.pass.now in
    let h = c.args.hand.now in
    let t = h.script in
    let b = c.requires.holds in
    let n = a_mailbox c.args.core.0 in
    let d = a_mailbox c.args.last.0 in
    let y = c.args.emptied in
    let hd = c.requires.mailbox in
    let acked = kept_mailbox st k k.seen (sees_now st k) c.args.last.0 y hd ∙ ap Some c.requires.acked in
    let w = next_within st c.requires.opened k b.lawful t (kept_script st k k.seen (sees_now st k) t b.stands) c.args.last c.args.core c.args.order c.requires.next acked in
    let l = c.take_mailbox.new.pass in
    let m = c.in-Ok.mailbox in
    let got = c.in-Ok.ensures.got in
    let r = takes st k t (d ∷ []) b l n (mailbox m) got in
    let hl = has_beside st k l n d (mailbox m) (mailbox y) got hd in
    let there = has_taken st k l n (mailbox m) got w in
    let u = c.post_next_held-entry.new.script in
    let z = c.post_next_held-entry.new.emptied in
    let x = c.post_next_held-entry.new.mailbox in
    let e = c.post_next_held-entry.result in
    let chs = mailbox_becomes c.args.last.0 z ∷ mailbox_becomes c.args.core.0 x ∷ script_becomes u ∷ [] in
    let makes = makes_next st l t u (n ∷ d ∷ []) r.holds h.polls e c.args.last.0 y hl c.args.core.0 z x c.post_next_held-entry.ensures in
    let p = c.commit-ticket.new.pass in
    made_now st l t (n ∷ d ∷ []) r.holds h.polls action.Script chs e makes p c.commit-ticket.result.0 c.commit-ticket.ensures n (mailbox m) (mailbox x) there
    (next_at (state_after st l.seen) u c.args.last.0 c.args.core.0 c.requires.other y z m x (kept_mailbox st l l.seen (sees_now st l) c.args.core.0 m there))

pub put_mailbox-requires-3-clause-held : goal.put_mailbox-requires-3-clause-held
put_mailbox-requires-3-clause-held g c κs within =
    let st = c.args.stage.now in
    let k = c.args.pass.now in
    let h = c.args.hand.now in
    let t = h.script in
    let b = c.requires.holds in
    let n = a_mailbox c.args.core.0 in
    let d = a_mailbox c.args.last.0 in
    let y = c.args.emptied in
    let hd = c.requires.mailbox in
    let acked = kept_mailbox st k k.seen (sees_now st k) c.args.last.0 y hd ∙ ap Some c.requires.acked in
    let w = next_within st c.requires.opened k b.lawful t (kept_script st k k.seen (sees_now st k) t b.stands) c.args.last c.args.core c.args.order c.requires.next acked in
    let l = c.take_mailbox.new.pass in
    let m = c.in-Ok.mailbox in
    let got = c.in-Ok.ensures.got in
    let r = takes st k t (d ∷ []) b l n (mailbox m) got in
    let hl = has_beside st k l n d (mailbox m) (mailbox y) got hd in
    let there = has_taken st k l n (mailbox m) got w in
    let u = c.post_next_held-entry.new.script in
    let z = c.post_next_held-entry.new.emptied in
    let x = c.post_next_held-entry.new.mailbox in
    let e = c.post_next_held-entry.result in
    let chs = mailbox_becomes c.args.last.0 z ∷ mailbox_becomes c.args.core.0 x ∷ script_becomes u ∷ [] in
    let makes = makes_next st l t u (n ∷ d ∷ []) r.holds h.polls e c.args.last.0 y hl c.args.core.0 z x c.post_next_held-entry.ensures in
    let p = c.commit-ticket.new.pass in
    let q = c.put_mailbox-2.new.pass in
    has_left st p q n d (mailbox z) c.put_mailbox-2.ensures (other_number st d n hd.within w (λ e. c.requires.other cc))
    (made_now st l t (n ∷ d ∷ []) r.holds h.polls action.Script chs e makes p c.commit-ticket.result.0 c.commit-ticket.ensures d (mailbox y) (mailbox z) hl
    (emptied_at (state_after st l.seen) u c.args.last.0 c.args.core.0 c.requires.other y z m x (kept_mailbox st l l.seen (sees_now st l) c.args.last.0 y hl)))

pub returns : goal.returns
returns g c =
    let st = c.args.stage.now in
    let k = c.args.pass.now in
    let h = c.args.hand.now in
    let t = h.script in
    let b = c.requires.holds in
    let n = a_mailbox c.args.core.0 in
    let d = a_mailbox c.args.last.0 in
    let y = c.args.emptied in
    let hd = c.requires.mailbox in
    let acked = kept_mailbox st k k.seen (sees_now st k) c.args.last.0 y hd ∙ ap Some c.requires.acked in
    let w = next_within st c.requires.opened k b.lawful t (kept_script st k k.seen (sees_now st k) t b.stands) c.args.last c.args.core c.args.order c.requires.next acked in
    let l = c.take_mailbox.new.pass in
    let m = c.in-Ok.mailbox in
    let got = c.in-Ok.ensures.got in
    let r = takes st k t (d ∷ []) b l n (mailbox m) got in
    let hl = has_beside st k l n d (mailbox m) (mailbox y) got hd in
    let there = has_taken st k l n (mailbox m) got w in
    let u = c.post_next_held-entry.new.script in
    let z = c.post_next_held-entry.new.emptied in
    let x = c.post_next_held-entry.new.mailbox in
    let e = c.post_next_held-entry.result in
    let chs = mailbox_becomes c.args.last.0 z ∷ mailbox_becomes c.args.core.0 x ∷ script_becomes u ∷ [] in
    let makes = makes_next st l t u (n ∷ d ∷ []) r.holds h.polls e c.args.last.0 y hl c.args.core.0 z x c.post_next_held-entry.ensures in
    let far = apart_two st n d w hd.within (λ e. cc) (λ e. c.requires.other cc) in
    let p = c.commit-ticket.new.pass in
    let q = c.put_mailbox-2.new.pass in
    let o = c.put_mailbox-3.new.pass in
    let made = enters_now st l t (n ∷ d ∷ []) r.holds h.polls action.Script chs e makes p c.commit-ticket.result.0 c.commit-ticket.ensures k u r refl in
    let one = leaves st k p q u n (d ∷ []) h.polls action.Script e c.commit-ticket.result.0 made far c.put_mailbox-2.ensures in
    acts_did st k o h (record h { script = u }) action.Script e c.commit-ticket.result
    (leaves st k q o u d [] h.polls action.Script e c.commit-ticket.result.0 one (apart_alone st d hd.within (λ e. cc)) c.put_mailbox-3.ensures) refl c.requires.few
    (quiet_now st l t (n ∷ d ∷ []) r.holds h.polls action.Script chs e makes (plain_at (state_after st l.seen) t (kept_script st l l.seen (sees_now st l) t r.holds.stands) (line.Boot c.requires.next.0) c.requires.next.1.goes tt))
