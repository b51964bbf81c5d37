-- What the entries of orders have in common.
use Rattle.std.proofs.Common.{◌≡◌, ℕ, Bool, true, false, Option, Some, None, refl, sym, ap, ◌∙◌, arith, inl, inr, ◌⊎◌}
use Rattle.std.specs.Prelude.{slice_get, slice_set, ◌==◌, ◌&&◌, if◌then◌else◌}
use Rattle.std.specs.Option.{option_map, option_map_or}
use Rattle.std.proofs.lemmas.Option.{slice_get-map, get_or_from_slice_get}
use Rattle.std.proofs.lemmas.Bool.Decides.{nat_tests}
use Rattle.dc_base.specs.declared.commands.Order.{Order}
use Rattle.dc_base.specs.Blocks.{Blocks}
use Rattle.dc_base.specs.States.{State, Core, order, ack}
use Rattle.dc_base.specs.StrikeOut.{clock_told}
use Rattle.dc_base.specs.Same.{is_same_order}
use Rattle.dc_base.specs.Answers.{order_answer, only_if, is_this_order}
use Rattle.dc_base.specs.Progress.{MailboxesFollow, Holds, posted_to, last_post, is_waiting, has_order}
use Rattle.dc_base.specs.Telling.{told_of, answered_of, posted_of, clocks_of}
use Rattle.dc_base.proofs.SameLaws.{is_same_order-refl}
use Rattle.dc_refine.proofs.Elements.{slice_get-set_same}
use Rattle.dc_refine.proofs.Quiet.{same_number}

pair_is : (p : ℕ × Order) (c : ℕ) (o : Order) → p.0 ≡ c → p.1 ≡ o → Some p ≡ Some (c, o)
pair_is p c o e f = ap (λ n. Some (n, p.1)) e ∙ ap (λ q. Some (c, q)) f

-- an order in a mailbox is the last post
held_order : (c : ℕ) (o o' : Order) → (order o ≡ order o') ⊎ (order o ≡ ack) → o' ≡ o
held_order c o o' (inl e) = cc
held_order c o o' (inr e) = cc

last_by : (c : ℕ) (o : Order) (lp : Option (ℕ × Order)) → Holds (order o) (posted_to c lp) → lp ≡ Some (c, o)
last_by c o None h = cc
last_by c o (Some p) h = by_test (p.0 == c) refl h
  where
    by_test : (t : Bool) → (p.0 == c) ≡ t → Holds (order o) (if t then Some p.1 else None) → Some p ≡ Some (c, o)
    by_test true e g = pair_is p c o (grind (arith, nat_tests, e)) (held_order c o p.1 g)
    by_test false e g = cc

pub last_post-is : (s : State) (c : ℕ) (o : Order) → MailboxesFollow s → slice_get s.mailboxes c ≡ Some (order o) → last_post s.script ≡ Some (c, o)
last_post-is s c o follow at = last_by c o (last_post s.script) (follow c (order o) at)

-- an order entry is that of the last post, and after it nothing is posted
module _ (s : State) (c : ℕ) (o : Order) (following : MailboxesFollow s) (at : slice_get s.mailboxes c ≡ Some (order o)) where
  last : last_post s.script ≡ Some (c, o)
  last = last_post-is s c o following at

  waiting : is_waiting s ≡ true
  waiting = ap (λ p. option_map_or (λ (q : ℕ × Order). has_order (slice_get s.mailboxes q.0)) p false) last ∙ ap has_order at

  posted_is : posted_of s ≡ Some (c, o)
  posted_is = ap (λ t. if t then last_post s.script else None) waiting ∙ last

  acked : slice_get (slice_set s.mailboxes c ack) c ≡ Some ack
  acked = slice_get-set_same s.mailboxes c (order o) ack at

  not_waiting : is_waiting (record s { mailboxes = slice_set s.mailboxes c ack }) ≡ false
  not_waiting = ap (λ p. option_map_or (λ (q : ℕ × Order). has_order (slice_get (slice_set s.mailboxes c ack) q.0)) p false) last ∙ ap has_order acked

  pub order_answers : order_answer (answered_of s) c (Some o) ≡ Some (answered_of (record s { mailboxes = slice_set s.mailboxes c ack }))
  order_answers =
      ap (λ p. only_if (is_this_order c o p) (record (answered_of s) { posted = None })) posted_is
      ∙ ap (λ t. only_if (t && is_same_order o o) (record (answered_of s) { posted = None })) (same_number c)
      ∙ ap (λ t. only_if t (record (answered_of s) { posted = None })) (is_same_order-refl o)
      ∙ ap (λ t. Some (record (answered_of s) { posted = if t then last_post s.script else None })) (sym not_waiting)

-- the clock that was told of a core
pub clock_was : (s : State) (t : Blocks) (c : ℕ) (k : Core) → slice_get s.cores c ≡ Some k → clock_told (told_of s t) c ≡ k.clock
clock_was s t c k core_at = get_or_from_slice_get (clocks_of s) c k.clock 0 (slice_get-map (λ (k : Core). k.clock) s.cores c ∙ ap (option_map (λ (k : Core). k.clock)) core_at)
