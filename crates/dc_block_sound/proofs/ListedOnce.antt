-- A dispatcher is listed in the ready list where it is ready.
use Rattle.std.proofs.Common.{◌≡◌, ℕ, ◌+◌, ◌<◌, List, [], ◌∷◌, ◌++◌, Bool, true, false, Some, refl, ap, subst, arith}
use Rattle.std.specs.Prelude.{slice_get, ◌==◌, ◌||◌}
use Rattle.dc_base.specs.declared.dispatchers.DispState.TheVariants as disp
use Rattle.dc_base.specs.ControlBlocks.{ControlBlock}
use Rattle.dc_base.specs.KeptByBlocks.{HasReady, is_ready}
use Rattle.dc_base.specs.Words.{lists, without, count_of}
use Rattle.dc_block_sound.proofs.Ready.{times_in, one_if, times-cons, times-append, one_same, count_most, without_same}
use Rattle.dc_block_sound.proofs.Walks.{is_ready_at}

-- a number is listed where it stands once or more

first_listed : (d : ℕ) (xs : List ℕ) → (lists xs d ≡ true → 0 < times_in d xs) → (t : Bool) → (t || lists xs d) ≡ true → 0 < one_if t + times_in d xs
first_listed d xs more true h = omega arith
first_listed d xs more false h = let m = more h in omega (arith, m)

listed_times : (d : ℕ) (xs : List ℕ) → lists xs d ≡ true → 0 < times_in d xs
listed_times d [] h = absurd cc
listed_times d (x ∷ xs) h = let c = times-cons d x xs in let f = first_listed d xs (listed_times d xs) (x == d) h in omega (arith, c, f)

first_times : (d : ℕ) (xs : List ℕ) → (0 < times_in d xs → lists xs d ≡ true) → (t : Bool) → 0 < one_if t + times_in d xs → (t || lists xs d) ≡ true
first_times d xs more true h = refl
first_times d xs more false h = more (omega (arith, h))

times_listed : (d : ℕ) (xs : List ℕ) → 0 < times_in d xs → lists xs d ≡ true
times_listed d [] h = absurd (omega (arith, h))
times_listed d (x ∷ xs) h = let c = times-cons d x xs in first_times d xs (times_listed d xs) (x == d) (omega (arith, c, h))

unlisted : (d : ℕ) (xs : List ℕ) → times_in d xs ≡ 0 → (t : Bool) → lists xs d ≡ t → t ≡ false
unlisted d xs h true e = let m = listed_times d xs e in absurd (omega (arith, h, m))
unlisted d xs h false e = refl

module _ (x : ControlBlock) (h : HasReady x) (d : ℕ) where
  pub listed_ready : lists x.ready d ≡ true → slice_get x.states d ≡ Some disp.Ready
  listed_ready e = is_ready_at (slice_get x.states d) (subst (λ n. 0 < n) (h d) (listed_times d x.ready e))

  pub ready_listed : slice_get x.states d ≡ Some disp.Ready → lists x.ready d ≡ true
  ready_listed e =
      let k = h d in
      let one : count_of (is_ready (slice_get x.states d)) ≡ 1 = ap (λ o. count_of (is_ready o)) e in
      times_listed d x.ready (omega (arith, k, one))

  pub listed_once : (before after : List ℕ) → x.ready ≡ before ++ d ∷ after → lists (before ++ after) d ≡ false
  listed_once before after e =
      let k = h d in
      let most = count_most (is_ready (slice_get x.states d)) in
      let here = ap (times_in d) e in
      let split = times-append d before (d ∷ after) in
      let first = times-cons d d after in
      let self = one_same d in
      let rest = times-append d before after in
      unlisted d (before ++ after) (omega (arith, k, most, here, split, first, self, rest)) (lists (before ++ after) d) refl

  pub none_left : lists (without d x.ready) d ≡ false
  none_left = unlisted d (without d x.ready) (without_same d x.ready) (lists (without d x.ready) d) refl
