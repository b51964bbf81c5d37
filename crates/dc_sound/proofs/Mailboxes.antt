-- A mailbox is not empty exactly where the last post of the command in progress was made to it: each entry keeps this.
use Rattle.std.proofs.Common.{◌≡◌, ℕ, zero, suc, ◌+◌, ◌<◌, List, [], ◌∷◌, ◌++◌, Bool, true, false, Option, Some, None, refl, sym, ap, ◌∙◌, subst, inl, inr, arith, add-one}
use Rattle.std.specs.Prelude.{slice_get, ◌==◌, if◌then◌else◌, IsSome}
use Rattle.std.specs.Option.{option_map_or}
use Rattle.dc_base.specs.declared.entries.Entry.{Entry}
use Rattle.dc_base.specs.declared.commands.Command.{Command}
use Rattle.dc_base.specs.declared.commands.Order.{Order}
use Rattle.dc_base.specs.declared.commands.ScriptLine.{ScriptLine}
use Rattle.dc_base.specs.declared.commands.ScriptLine.TheVariants as script
use Rattle.dc_base.specs.Changes.{Change, apply}
use Rattle.dc_base.specs.Orders.{block_at_rest, block_under}
use Rattle.dc_base.specs.Progress.{MailboxesFollow, Holds, posted_to, last_post, last_of, orders_now, command_at, boot_command}
use Rattle.dc_base.specs.States.{State, Core, Mailbox, empty, order, ack}
use Rattle.dc_base.specs.Words.{Each, bind}
use Rattle.dc_base.specs.Boot as boot
use Rattle.dc_sound.proofs.EntryKinds.{HasOrder, IsPost, IsDone, Before, first_post, next_post, slice_changes, Kind, is_slice, is_slice_none, is_idle, is_wake, is_intake, is_start, is_stop, is_replace, is_adopt, is_release, is_post, is_done, is_refused, is_route, is_awaited, is_raise}
use Rattle.dc_sound.proofs.Rules.{Rule, no_rule, Obeys, Fine, kept, fine_outside, fine_all}
use Rattle.dc_block_sound.proofs.Elements.{same_is, other_is, SetCase, set_now, set_before, set_case}

module _ (s : State) (chs : List Change) (e : Entry) (m : MailboxesFollow s) (begun : 0 < s.script.posts → IsSome (command_at s.script)) where
  abbrev last : Option (ℕ × Order)
  last = last_post s.script

  -- the last post is as before, and each mailbox has what it asks for
  abbrev follows : Rule
  follows = record no_rule { mailbox = λ c x. Holds x (posted_to c last); script = λ t. last_post t ≡ last }

  obeyed : Obeys follows s
  obeyed = record { cores = λ c k e. tt; blocks = λ b x e. tt; channels = λ x r e. tt; lines = λ l w e. tt; mailboxes = m; consoles = λ b ws e. tt; script = refl }

  framed : Fine follows chs → MailboxesFollow (apply s chs)
  framed f = let o = kept follows chs s f obeyed in λ c x q. subst (λ l. Holds x (posted_to c l)) (sym o.script) (o.mailboxes c x q)

  ack_by : (x : Order) (o : Option Order) → Holds (order x) o → Holds ack o
  ack_by x None h = absurd cc
  ack_by x (Some y) h = inr refl

  acked_at : (c : ℕ) (k : Core) (x : Order) → HasOrder s c k x → Holds ack (posted_to c last)
  acked_at c k x h = ack_by x (posted_to c last) (m c (order x) h.mailbox_at)

  no_posts : s.script.posts ≡ 0 → last ≡ None
  no_posts z = ap (λ n. last_of n (orders_now s.script)) z

  all_empty : last ≡ None → Each s.mailboxes (λ c x. x ≡ empty)
  all_empty z c x q = subst (λ l. Holds x (posted_to c l)) z (m c x q)

  -- a line that is no boot command: no command is in progress
  not_begun : (l : ScriptLine) → slice_get s.script.lines s.script.place ≡ Some l → boot_command l ≡ None → (n : ℕ) → s.script.posts ≡ n → s.script.posts ≡ 0
  not_begun l q b zero z = z
  not_begun l q b (suc n) z = let none : ◌≡◌ {A = Bool} false true = subst IsSome (ap (λ o. bind o boot_command) q ∙ b) (begun (omega (arith, z))) in absurd cc

  -- the mailboxes after those changes that come before a post, or before a command is done
  cleared : (c p : ℕ) (x : Mailbox) → (o : ℕ × Order) → last ≡ Some o → SetCase s.mailboxes o.0 empty c x → x ≡ empty
  cleared c p x o z (set_now same q) = q
  cleared c p x o z (set_before n q) =
      let h : Holds x (posted_to c (Some o)) = subst (λ l. Holds x (posted_to c l)) z (m c x q) in
      subst (λ (t : Bool). Holds x (if t then Some o.1 else None)) (other_is o.0 c n) h

  orders_are : (command : Command) → slice_get s.script.lines s.script.place ≡ Some (script.Boot command) → orders_now s.script ≡ boot.orders s.script.registry command
  orders_are command q = ap (λ o. option_map_or (boot.orders s.script.registry) (bind o boot_command) []) q

  emptied_by : (command : Command) → slice_get s.script.lines s.script.place ≡ Some (script.Boot command) → (before : List Change) → Before s command before → Each (apply s before).mailboxes (λ c x. x ≡ empty)
  emptied_by command l before (first_post z r q) = subst (λ cs. Each (apply s cs).mailboxes (λ c x. x ≡ empty)) (sym q) (all_empty (no_posts z))
  emptied_by command l before (next_post n p z g a q) =
      let posted : last ≡ Some p = ap (λ k. last_of k (orders_now s.script)) z ∙ ap (λ os. slice_get os n) (orders_are command l) ∙ g in
      subst (λ cs. Each (apply s cs).mailboxes (λ c x. x ≡ empty)) (sym q) (λ c x h. cleared c p.0 x p posted (set_case s.mailboxes p.0 empty c x h))

  apply_append : (before more : List Change) (u : State) → apply u (before ++ more) ≡ apply (apply u before) more
  apply_append [] more u = refl
  apply_append (ch ∷ before) more u = apply_append before more (apply u (ch ∷ []))

  posted_at : (c : ℕ) (x : Mailbox) (o : ℕ × Order) (u : List Mailbox) → Each u (λ c x. x ≡ empty) → SetCase u o.0 (order o.1) c x → Holds x (posted_to c (Some o))
  posted_at c x o u h (set_now same q) = subst (λ (t : Bool). Holds x (if t then Some o.1 else None)) (sym (subst (λ n. (o.0 == n) ≡ true) same (same_is o.0))) (inl q)
  posted_at c x o u h (set_before n q) = subst (λ (t : Bool). Holds x (if t then Some o.1 else None)) (sym (other_is o.0 c n)) (h c x q)

  post_kept : IsPost s chs e → MailboxesFollow (apply s chs)
  post_kept i =
      let u = apply s i.before in
      let clear = emptied_by i.command i.stands.line_at i.before i.before_at in
      let new : last_of (s.script.posts + 1) (orders_now s.script) ≡ Some i.o = ap (λ n. last_of n (orders_now s.script)) (add-one s.script.posts) ∙ ap (λ os. slice_get os s.script.posts) (orders_are i.command i.stands.line_at) ∙ i.order_at in
      subst (λ cs. MailboxesFollow (apply s cs)) (sym i.changes_are)
      (subst MailboxesFollow (sym (apply_append i.before _ s))
      (λ c x q. subst (λ l. Holds x (posted_to c l)) (sym new) (posted_at c x i.o u.mailboxes clear (set_case u.mailboxes i.o.0 (order i.o.1) c x q))))

  done_kept : IsDone s chs e → MailboxesFollow (apply s chs)
  done_kept i =
      subst (λ cs. MailboxesFollow (apply s cs)) (sym i.changes_are)
      (subst MailboxesFollow (sym (apply_append i.before _ s)) (emptied_by i.command i.stands.line_at i.before i.before_at))

  -- each entry keeps this part; it uses that a command in progress is a boot command
  pub mailboxes_kept : Kind s chs e → MailboxesFollow (apply s chs)
  mailboxes_kept (is_slice i) = framed (subst (Fine follows) (sym (slice_changes s chs e i)) (tt, (tt, fine_outside follows i.b _ _ (λ ws. tt) (λ x r. tt) (λ l w. tt))))
  mailboxes_kept (is_slice_none i) = framed (subst (Fine follows) (sym i.changes_are) (tt, (tt, tt)))
  mailboxes_kept (is_idle i) = framed (subst (Fine follows) (sym i.changes_are) (tt, tt))
  mailboxes_kept (is_wake i) = framed (subst (Fine follows) (sym i.changes_are) (tt, (tt, tt)))
  mailboxes_kept (is_intake i) = framed (subst (Fine follows) (sym i.changes_are) (tt, (tt, tt)))
  mailboxes_kept (is_start i) = framed (subst (Fine follows) (sym i.changes_are) (tt, (acked_at i.c i.k _ i.order_at, tt)))
  mailboxes_kept (is_stop i) = framed (subst (Fine follows) (sym i.changes_are) (tt, (acked_at i.c i.k _ i.order_at, fine_all follows (block_at_rest i.k.clock) s.blocks _ (λ b x q. tt))))
  mailboxes_kept (is_replace i) = framed (subst (Fine follows) (sym i.changes_are) (tt, (acked_at i.c i.k _ i.order_at, fine_all follows (block_under i.v) s.blocks _ (λ b x q. tt))))
  mailboxes_kept (is_adopt i) = framed (subst (Fine follows) (sym i.changes_are) (tt, (acked_at i.c i.k _ i.order_at, (tt, tt))))
  mailboxes_kept (is_release i) = framed (subst (Fine follows) (sym i.changes_are) (tt, (acked_at i.c i.k _ i.order_at, (tt, tt))))
  mailboxes_kept (is_post i) = post_kept i
  mailboxes_kept (is_done i) = done_kept i
  mailboxes_kept (is_refused i) = subst (λ cs. MailboxesFollow (apply s cs)) (sym i.changes_are) (all_empty (no_posts i.posts_at))
  mailboxes_kept (is_route i) = subst (λ cs. MailboxesFollow (apply s cs)) (sym i.changes_are) (all_empty (no_posts (not_begun _ i.stands.line_at refl _ refl)))
  mailboxes_kept (is_awaited i) = subst (λ cs. MailboxesFollow (apply s cs)) (sym i.changes_are) (all_empty (no_posts (not_begun _ i.stands.line_at refl _ refl)))
  mailboxes_kept (is_raise i) = framed (subst (Fine follows) (sym i.changes_are) (tt, (refl, tt)))
