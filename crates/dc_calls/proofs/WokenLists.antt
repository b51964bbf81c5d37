-- Who is ready stays so while others wake, and is not listed twice.
use Rattle.std.proofs.Common.{◌≡◌, ℕ, zero, suc, ◌+◌, ◌<◌, List, [], ◌∷◌, ◌++◌, Bool, true, false, cond, Option, Some, None, refl, sym, ap, ◌∙◌, subst, arith}
use Rattle.std.specs.Prelude.{slice_get, ◌==◌, ◌||◌}
use Rattle.std.specs.Option.{option_map}
use Rattle.std.proofs.lemmas.Bool.{ne_eqb, or_parts}
use Rattle.std.proofs.lemmas.Option.{same_Some, slice_get-map}
use Rattle.dc_base.specs.declared.dispatchers.DispState.{DispState}
use Rattle.dc_base.specs.declared.dispatchers.DispState.TheVariants as disp
use Rattle.dc_base.specs.declared.dispatchers.Wait.{Wait}
use Rattle.dc_base.specs.ControlBlocks.{ControlBlock}
use Rattle.dc_base.specs.Firing.{waits_so, waiters_from, state_after_wake, wake, wake_if}
use Rattle.dc_base.specs.Words.{lists}

unlisted-step : (b t : Bool) → b ≡ false → t ≡ false → (b || t) ≡ false
unlisted-step b t p q = ap (λ b. b || t) p ∙ q

-- no waiter has a number below the first
waiters_above : (n m : ℕ) (w : Wait) (ss : List DispState) → m < n → lists (waiters_from n w ss) m ≡ false
waiters_above n m w [] h = refl
waiters_above n m w (s ∷ ss) h =
    let rest = waiters_above (n + 1) m w ss (omega (arith, h)) in
    elim (waits_so w s) as (λ b. lists (cond b (n ∷ waiters_from (n + 1) w ss) (waiters_from (n + 1) w ss)) m ≡ false)
    [ true ↦ unlisted-step (n == m) (lists (waiters_from (n + 1) w ss) m) (ne_eqb n m (λ e. omega (arith, h, e))) rest | false ↦ rest ]

-- a ready one is no waiter
waiters_without : (n i : ℕ) (w : Wait) (ss : List DispState) → slice_get ss i ≡ Some disp.Ready → lists (waiters_from n w ss) (n + i) ≡ false
waiters_without n i w [] e = refl
waiters_without n zero w (s ∷ ss) e =
    let is : s ≡ disp.Ready = same_Some _ _ e in
    subst (λ (t : DispState). lists (waiters_from n w (t ∷ ss)) (n + 0) ≡ false) (sym is) (waiters_above (n + 1) (n + 0) w ss (omega (arith)))
waiters_without n (suc i) w (s ∷ ss) e =
    let rest : lists (waiters_from (n + 1) w ss) (n + suc i) ≡ false = subst (λ m. lists (waiters_from (n + 1) w ss) m ≡ false) (omega (arith)) (waiters_without (n + 1) i w ss e) in
    elim (waits_so w s) as (λ b. lists (cond b (n ∷ waiters_from (n + 1) w ss) (waiters_from (n + 1) w ss)) (n + suc i) ≡ false)
    [ true ↦ unlisted-step (n == (n + suc i)) (lists (waiters_from (n + 1) w ss) (n + suc i)) (ne_eqb n (n + suc i) (λ e. omega (arith, e))) rest | false ↦ rest ]

lists-append : (xs ys : List ℕ) (d : ℕ) → lists xs d ≡ false → lists ys d ≡ false → lists (xs ++ ys) d ≡ false
lists-append [] ys d p q = q
lists-append (x ∷ xs) ys d p q = let h = or_parts (x == d) (lists xs d) p in unlisted-step (x == d) (lists (xs ++ ys) d) h.0 (lists-append xs ys d h.1 q)

module _ (d : ℕ) (x : ControlBlock) where
  pub ready_stays : (w : Option Wait) → slice_get x.states d ≡ Some disp.Ready → slice_get (wake_if w x).states d ≡ Some disp.Ready
  unfolding wake
  ready_stays None e = e
  ready_stays (Some w) e = slice_get-map (state_after_wake w) x.states d ∙ ap (option_map (state_after_wake w)) e

  pub stays_unlisted : (w : Option Wait) → slice_get x.states d ≡ Some disp.Ready → lists x.ready d ≡ false → lists (wake_if w x).ready d ≡ false
  unfolding wake
  stays_unlisted None e p = p
  stays_unlisted (Some w) e p = lists-append x.ready (waiters_from 0 w x.states) d p (subst (λ m. lists (waiters_from 0 w x.states) m ≡ false) (omega (arith)) (waiters_without 0 d w x.states e))

  pub dues_stay : (w : Option Wait) → (wake_if w x).dues ≡ x.dues
  unfolding wake
  dues_stay None = refl
  dues_stay (Some w) = refl
