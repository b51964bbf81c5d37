-- The used budget grows by one in a slice, an idle and a wake, and stays in each other entry.
use Rattle.std.proofs.Common.{◌≡◌, ℕ, ◌+◌, ◌≤◌, List, Some, refl, ap, ◌∙◌, arith, get_or}
use Rattle.std.specs.Prelude.{slice_get, slice_set}
use Rattle.std.specs.List.{sum_by}
use Rattle.std.proofs.lemmas.List.Sums.{sum_by-set}
use Rattle.std.proofs.lemmas.Option.{get_or_from_slice_get, slice_get_within}
use Rattle.dc_base.specs.declared.entries.Entry.{Entry}
use Rattle.dc_base.specs.Bounded.{budget}
use Rattle.dc_base.specs.Changes.{Change, apply}
use Rattle.dc_base.specs.Orders.{block_at_rest, block_under}
use Rattle.dc_base.specs.Outcomes.{share_without, with_clock}
use Rattle.dc_base.specs.States.{State, Core}
use Rattle.dc_base.specs.SliceTurns.{core_after_slice}
use Rattle.dc_sound.proofs.EntryKinds.{IsSlice, sliced_of, slice_changes, Kind, is_slice, is_slice_none, is_idle, is_wake, is_intake, is_start, is_stop, is_replace, is_adopt, is_release, is_post, is_done, is_refused, is_route, is_awaited, is_raise}
use Rattle.dc_block_sound.proofs.Elements.{all_cores}
use Rattle.dc_sound.proofs.CoresAfter.{outside_cores, post_cores, done_cores}

abbrev pub used_of : Core → ℕ
used_of k = k.used

pub used-set : (cs : List Core) (c : ℕ) (k new : Core) (n : ℕ) → slice_get cs c ≡ Some k → new.used ≡ k.used + n → sum_by used_of (slice_set cs c new) ≡ sum_by used_of cs + n
used-set cs c k new n h u =
    let f : used_of (get_or cs c k) ≡ k.used = ap used_of (get_or_from_slice_get cs c k k h) in
    omega (arith, sum_by-set used_of cs c new k (slice_get_within cs c k h))

module _ (s : State) (chs : List Change) (e : Entry) where
  -- the budget after an entry that used so much
  abbrev Spends : ℕ → Type 0
  Spends n = budget (apply s chs) ≡ budget s + n

  by_core : (n : ℕ) {more : List Change} → chs ≡ more → (c : ℕ) (k new : Core) → slice_get s.cores c ≡ Some k → (apply s more).cores ≡ slice_set s.cores c new → new.used ≡ k.used + n → Spends n
  by_core n q c k new h g u = ap (λ cs. budget (apply s cs)) q ∙ ap (sum_by used_of) g ∙ used-set s.cores c k new n h u

  by_none : {more : List Change} → chs ≡ more → (apply s more).cores ≡ s.cores → Spends 0
  by_none q g = let e : budget (apply s chs) ≡ budget s = ap (λ cs. budget (apply s cs)) q ∙ ap (sum_by used_of) g in omega (arith, e)

  pub slice_spends : IsSlice s chs e → Spends 1
  slice_spends i =
      let sl = sliced_of s chs e i in
      by_core 1 (slice_changes s chs e i) i.c i.k (core_after_slice i.k i.b (i.k.clock + sl.advance)) i.turn.core_at (outside_cores i.b sl.need sl.outside _) refl

  abbrev spent : Kind s chs e → ℕ
  spent (is_slice i) = 1
  spent (is_slice_none i) = 1
  spent (is_idle i) = 1
  spent (is_wake i) = 1
  spent k = 0

  unused : (k : Core) → k.used ≡ k.used + 0
  unused k = omega arith

  spends : (k : Kind s chs e) → Spends (spent k)
  spends (is_slice i) = slice_spends i
  spends (is_slice_none i) = by_core 1 i.changes_are i.c i.k _ i.turn.core_at refl refl
  spends (is_idle i) = by_core 1 i.changes_are i.c i.k (with_clock i.clock i.k) i.core_at refl refl
  spends (is_wake i) = by_core 1 i.changes_are i.c i.k _ i.turn.core_at refl refl
  spends (is_intake i) = by_none i.changes_are refl
  spends (is_start i) = by_core 0 i.changes_are i.c i.k (record i.k { version = Some i.v }) i.order_at.core_at refl (unused i.k)
  spends (is_stop i) = by_core 0 i.changes_are i.c i.k _ i.order_at.core_at (all_cores (block_at_rest i.k.clock) s.blocks i.k.share _) (unused i.k)
  spends (is_replace i) = by_core 0 i.changes_are i.c i.k _ i.order_at.core_at (all_cores (block_under i.v) s.blocks i.k.share _) (unused i.k)
  spends (is_adopt i) = by_core 0 i.changes_are i.c i.k _ i.order_at.core_at refl (unused i.k)
  spends (is_release i) = by_core 0 i.changes_are i.c i.k (record i.k { share = share_without i.b.0 i.k.share }) i.order_at.core_at refl (unused i.k)
  spends (is_post i) = by_none i.changes_are (post_cores s i.command i.before i.before_at _ _ _)
  spends (is_done i) = by_none i.changes_are (done_cores s i.command i.before i.before_at _)
  spends (is_refused i) = by_none i.changes_are refl
  spends (is_route i) = by_none i.changes_are refl
  spends (is_awaited i) = by_none i.changes_are refl
  spends (is_raise i) = by_none i.changes_are refl

  -- the budget never falls
  pub budget_grows : Kind s chs e → budget s ≤ budget (apply s chs)
  budget_grows k = let h = spends k in omega (arith, h)
