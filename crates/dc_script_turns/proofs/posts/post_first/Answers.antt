use Rattle.std.proofs.Common.{[], ◌∷◌, refl, inl, inr}
use Rattle.dc_base.specs.declared.actions.Action.TheVariants as action
use Rattle.dc_base.specs.Changes.{a_mailbox, mailbox, mailbox_becomes, script_becomes, the_script}
use Rattle.dc_hands.specs.Machines.{state_after}
use Rattle.dc_script_turns.proofs.ScriptApart.{apart_alone, free_of, turn_two}
use Rattle.dc_script_turns.proofs.ScriptLooks.{first_looks}
use Rattle.dc_script_turns.proofs.ScriptMakes.{by_pass, enters_now, held_now, lawful_now, made_now, makes_post, quiet_now}
use Rattle.dc_script_turns.proofs.ScriptPosts.{first_within, posted_at}
use Rattle.dc_script_turns.proofs.ScriptSteps.{acts_busy, acts_did, begun, kept_mailbox, kept_script, leaves, misses, refused_at, takes}
use Rattle.dc_hands.proofs.Seeing.{has_taken, sees_now}
use Rattle.dc_script_turns.proofs.ScriptEntries.{plain_at}
use Rattle.dc_base.specs.declared.commands.ScriptLine.TheVariants as line
use Rattle.dc_script_turns.proofs.posts.post_first.Goals as goal

pub take_mailbox-requires-clause-within : goal.take_mailbox-requires-clause-within
take_mailbox-requires-clause-within g c κs within =
    let st = c.args.stage.now in
    let k = c.args.pass.now in
    let h = c.args.hand.now in
    let t = h.script in
    first_within st c.requires.opened k c.requires.hand.lawful t c.requires.hand.script c.args.core c.args.order c.requires.first

pub take_mailbox-requires-clause-free : goal.take_mailbox-requires-clause-free
take_mailbox-requires-clause-free g c κs within =
    let st = c.args.stage.now in
    let k = c.args.pass.now in
    let h = c.args.hand.now in
    let t = h.script in
    let b = begun st c.requires.opened k h c.requires.hand in
    let n = a_mailbox c.args.core.0 in
    let w = first_within st c.requires.opened k c.requires.hand.lawful t c.requires.hand.script c.args.core c.args.order c.requires.first in
    let far = apart_alone st n w (λ e. cc) in
    free_of st k t n [] b far

pub returns-in-Err : goal.returns-in-Err
returns-in-Err g c =
    let st = c.args.stage.now in
    let k = c.args.pass.now in
    let h = c.args.hand.now in
    let t = h.script in
    let b = begun st c.requires.opened k h c.requires.hand in
    let n = a_mailbox c.args.core.0 in
    let l = c.take_mailbox.new.pass in
    let busy = c.in-Err.busy in
    let miss = c.in-Err.ensures.busy in
    let r = misses st k t [] b l n busy miss in
    acts_busy st k l h action.Script busy r c.requires.hand.polls
    (refused_at st k k l l t [] h.polls action.Script busy n (the_script ∷ n ∷ []) r miss refl
    (first_looks (state_after st l.seen) t (kept_script st l l.seen (sees_now st l) t r.holds.stands) (λ q. h.polls) c.args.core c.args.order c.requires.first) (inr (inl refl)))

pub commit-ticket-requires-clause-actor : goal.commit-ticket-requires-clause-actor
commit-ticket-requires-clause-actor g c κs within =
    let st = c.args.stage.now in
    let k = c.args.pass.now in
    let h = c.args.hand.now in
    let t = h.script in
    let b = begun st c.requires.opened k h c.requires.hand in
    let n = a_mailbox c.args.core.0 in
    let w = first_within st c.requires.opened k c.requires.hand.lawful t c.requires.hand.script c.args.core c.args.order c.requires.first in
    let far = apart_alone st n w (λ e. cc) in
    let l = c.take_mailbox.new.pass in
    let m = c.in-Ok.mailbox in
    let got = c.in-Ok.ensures.got in
    let r = takes st k t [] b l n (mailbox m) got in
    let u = c.post_held-entry.new.script in
    let x = c.post_held-entry.new.mailbox in
    let e = c.post_held-entry.result in
    let chs = mailbox_becomes c.args.core.0 x ∷ script_becomes u ∷ [] in
    let makes = makes_post st l t u (n ∷ []) r.holds h.polls e c.args.core.0 x c.post_held-entry.ensures in
    by_pass st l t (n ∷ []) r.holds h.polls action.Script chs e makes

pub commit-ticket-requires-clause-lawful : goal.commit-ticket-requires-clause-lawful
commit-ticket-requires-clause-lawful g c κs within =
    let st = c.args.stage.now in
    let k = c.args.pass.now in
    let h = c.args.hand.now in
    let t = h.script in
    let b = begun st c.requires.opened k h c.requires.hand in
    let n = a_mailbox c.args.core.0 in
    let w = first_within st c.requires.opened k c.requires.hand.lawful t c.requires.hand.script c.args.core c.args.order c.requires.first in
    let far = apart_alone st n w (λ e. cc) in
    let l = c.take_mailbox.new.pass in
    let m = c.in-Ok.mailbox in
    let got = c.in-Ok.ensures.got in
    let r = takes st k t [] b l n (mailbox m) got in
    let u = c.post_held-entry.new.script in
    let x = c.post_held-entry.new.mailbox in
    let e = c.post_held-entry.result in
    let chs = mailbox_becomes c.args.core.0 x ∷ script_becomes u ∷ [] in
    let makes = makes_post st l t u (n ∷ []) r.holds h.polls e c.args.core.0 x c.post_held-entry.ensures in
    lawful_now st l t (n ∷ []) r.holds h.polls action.Script chs e makes

pub commit-ticket-requires-clause-held : goal.commit-ticket-requires-clause-held
commit-ticket-requires-clause-held g c κs within =
    let st = c.args.stage.now in
    let k = c.args.pass.now in
    let h = c.args.hand.now in
    let t = h.script in
    let b = begun st c.requires.opened k h c.requires.hand in
    let n = a_mailbox c.args.core.0 in
    let w = first_within st c.requires.opened k c.requires.hand.lawful t c.requires.hand.script c.args.core c.args.order c.requires.first in
    let far = apart_alone st n w (λ e. cc) in
    let l = c.take_mailbox.new.pass in
    let m = c.in-Ok.mailbox in
    let got = c.in-Ok.ensures.got in
    let r = takes st k t [] b l n (mailbox m) got in
    let u = c.post_held-entry.new.script in
    let x = c.post_held-entry.new.mailbox in
    let e = c.post_held-entry.result in
    let chs = mailbox_becomes c.args.core.0 x ∷ script_becomes u ∷ [] in
    let makes = makes_post st l t u (n ∷ []) r.holds h.polls e c.args.core.0 x c.post_held-entry.ensures in
    held_now st l t (n ∷ []) r.holds h.polls action.Script chs e makes (the_script ∷ n ∷ [])
    (λ f. first_looks (state_after st l.seen) t (kept_script st l l.seen (sees_now st l) t r.holds.stands) f c.args.core c.args.order c.requires.first)
    (λ a i. turn_two a the_script n i)

pub put_mailbox-requires-clause-held : goal.put_mailbox-requires-clause-held
put_mailbox-requires-clause-held g c κs within =
    let st = c.args.stage.now in
    let k = c.args.pass.now in
    let h = c.args.hand.now in
    let t = h.script in
    let b = begun st c.requires.opened k h c.requires.hand in
    let n = a_mailbox c.args.core.0 in
    let w = first_within st c.requires.opened k c.requires.hand.lawful t c.requires.hand.script c.args.core c.args.order c.requires.first in
    let far = apart_alone st n w (λ e. cc) in
    let l = c.take_mailbox.new.pass in
    let m = c.in-Ok.mailbox in
    let got = c.in-Ok.ensures.got in
    let r = takes st k t [] b l n (mailbox m) got in
    let u = c.post_held-entry.new.script in
    let x = c.post_held-entry.new.mailbox in
    let e = c.post_held-entry.result in
    let chs = mailbox_becomes c.args.core.0 x ∷ script_becomes u ∷ [] in
    let makes = makes_post st l t u (n ∷ []) r.holds h.polls e c.args.core.0 x c.post_held-entry.ensures in
    let there = has_taken st k l n (mailbox m) got w in
    made_now st l t (n ∷ []) r.holds h.polls action.Script chs e makes c.commit-ticket.new.pass c.commit-ticket.result.0 c.commit-ticket.ensures n (mailbox m) (mailbox x) there
    (posted_at (state_after st l.seen) u c.args.core.0 m x (kept_mailbox st l l.seen (sees_now st l) c.args.core.0 m there))

pub returns : goal.returns
returns g c =
    let st = c.args.stage.now in
    let k = c.args.pass.now in
    let h = c.args.hand.now in
    let t = h.script in
    let b = begun st c.requires.opened k h c.requires.hand in
    let n = a_mailbox c.args.core.0 in
    let w = first_within st c.requires.opened k c.requires.hand.lawful t c.requires.hand.script c.args.core c.args.order c.requires.first in
    let far = apart_alone st n w (λ e. cc) in
    let l = c.take_mailbox.new.pass in
    let m = c.in-Ok.mailbox in
    let got = c.in-Ok.ensures.got in
    let r = takes st k t [] b l n (mailbox m) got in
    let u = c.post_held-entry.new.script in
    let x = c.post_held-entry.new.mailbox in
    let e = c.post_held-entry.result in
    let chs = mailbox_becomes c.args.core.0 x ∷ script_becomes u ∷ [] in
    let makes = makes_post st l t u (n ∷ []) r.holds h.polls e c.args.core.0 x c.post_held-entry.ensures in
    let p = c.commit-ticket.new.pass in
    let q = c.put_mailbox.new.pass in
    let made = enters_now st l t (n ∷ []) r.holds h.polls action.Script chs e makes p c.commit-ticket.result.0 c.commit-ticket.ensures k u r refl in
    acts_did st k q h (record h { script = u }) action.Script e c.commit-ticket.result
    (leaves st k p q u n [] h.polls action.Script e c.commit-ticket.result.0 made far c.put_mailbox.ensures) refl c.requires.hand.polls
    (quiet_now st l t (n ∷ []) r.holds h.polls action.Script chs e makes (plain_at (state_after st l.seen) t (kept_script st l l.seen (sees_now st l) t r.holds.stands) (line.Boot c.requires.first.0) c.requires.first.1.goes tt))
