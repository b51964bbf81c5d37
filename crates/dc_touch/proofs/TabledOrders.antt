-- A start, stop, replacement, adoption or release touches what the table says.
use Rattle.std.proofs.Common.{◌≡◌, ℕ, List, [], ◌∷◌, ◌++◌, Bool, Option, Some, None, map}
use Rattle.std.specs.Prelude.{slice_get, length}
use Rattle.std.specs.List.Sorted.{IsPermutation}
use Rattle.std.proofs.lemmas.List.Sorted.{IsPermutation-refl, IsPermutation-cons, IsPermutation-append_comm}
use Rattle.dc_base.specs.declared.kernels.Version.{Version}
use Rattle.dc_base.specs.declared.commands.Order.{Order}
use Rattle.dc_base.specs.declared.commands.Order.TheVariants as orders
use Rattle.dc_base.specs.declared.entries.Entry.{Entry}
use Rattle.dc_base.specs.declared.entries.What.TheVariants as what
use Rattle.dc_base.specs.States.{State, Core, Block, Mailbox, order}
use Rattle.dc_base.specs.Changes.{Name, a_core, a_block, a_mailbox, Change}
use Rattle.dc_base.specs.Turns.{ends}
use Rattle.dc_base.specs.Outcomes.{share_blocks}
use Rattle.dc_base.specs.Orders.{adopt_outcome, release_outcome, carry_out, order_turn}
use Rattle.dc_touch.proofs.Tabled.{IsTabled, refused, made_by_core}

module _ (s : State) (chs : List Change) (e : Entry) (c : ℕ) (k : Core) (here : slice_get s.cores c ≡ Some k) where
  -- the mailbox is looked at before these, and comes after them in the table
  mailbox_last : (ns : List Name) → IsPermutation (a_core c ∷ a_mailbox c ∷ ns) (a_core c ∷ ns ++ a_mailbox c ∷ [])
  mailbox_last ns = IsPermutation-cons (a_core c) _ _ (IsPermutation-append_comm (a_mailbox c ∷ []) ns)

  adopt_tabled : (b : ℕ) (parked : Bool) (v : Option Version) (o : Option Block) → IsTabled s chs e (a_core c ∷ a_mailbox c ∷ a_block b ∷ []) (ends (adopt_outcome c k b parked v o))
  adopt_tabled b parked None None = refused s chs e _
  adopt_tabled b parked None (Some x) = refused s chs e _
  adopt_tabled b parked (Some v) None = refused s chs e _
  adopt_tabled b parked (Some v) (Some x) = made_by_core s chs e c k here (a_core c ∷ a_mailbox c ∷ a_block b ∷ []) _ _ (mailbox_last (a_block b ∷ []))

  release_tabled : (b : ℕ) (o : Option Block) → IsTabled s chs e (a_core c ∷ a_mailbox c ∷ a_block b ∷ []) (ends (release_outcome c k b o))
  release_tabled b None = refused s chs e _
  release_tabled b (Some x) = made_by_core s chs e c k here (a_core c ∷ a_mailbox c ∷ a_block b ∷ []) _ _ (mailbox_last (a_block b ∷ []))

  carried_tabled : (o : Order) → IsTabled s chs e (a_core c ∷ a_mailbox c ∷ []) (carry_out c k o)
  unfolding carry_out
  carried_tabled (orders.Start v) = made_by_core s chs e c k here (a_core c ∷ a_mailbox c ∷ []) _ (what.Start v k.clock) (IsPermutation-refl _)
  carried_tabled orders.Stop = made_by_core s chs e c k here (a_core c ∷ a_mailbox c ∷ map a_block (share_blocks k.share)) _ (what.Stop (length k.share)) (mailbox_last (map a_block (share_blocks k.share)))
  carried_tabled (orders.Replace v) = made_by_core s chs e c k here (a_core c ∷ a_mailbox c ∷ map a_block (share_blocks k.share)) _ (what.Replace v) (mailbox_last (map a_block (share_blocks k.share)))
  carried_tabled (orders.Adopt b parked) = adopt_tabled b.0 parked k.version (slice_get s.blocks b.0)
  carried_tabled (orders.Release b) = release_tabled b.0 (slice_get s.blocks b.0)

  pub order_tabled : (o : Option Mailbox) → IsTabled s chs e (a_core c ∷ a_mailbox c ∷ []) (order_turn c k o)
  order_tabled (Some (order o)) = carried_tabled o
  order_tabled m = refused s chs e _
