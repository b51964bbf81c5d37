-- The soonest of a list is the soonest however the list is ordered, and the first of a list in order.
use Rattle.std.proofs.Common.{◌≡◌, ◌≢◌, ℕ, Bool, true, false, cond, not, List, [], ◌∷◌, ◌++◌, sym, refl, ap, ◌∙◌}
use Rattle.std.specs.Prelude.{Option, Some, None}
use Rattle.dc_base.specs.declared.interrupts.Timer.{Timer}
use Rattle.dc_base.specs.Timers.{is_sooner, sooner, soonest}
use Rattle.dc_timers.specs.Numbers.{DifferFrom, AreNumbered}
use Rattle.dc_timers.proofs.TimerOrders.{in_order-order, past}
use Rattle.dc_timers.proofs.Sorting.{put_by, sort_by, differ-sort}

other-way : (t u : Timer) → t.number ≢ u.number → is_sooner u t ≡ not (is_sooner t u)
other-way t u ne = in_order-order.one t u ne

chosen : (t u : Timer) (b c : Bool) → c ≡ not b → cond b t u ≡ cond c u t
chosen t u true c e = ap (λ d. cond d u t) (sym e)
chosen t u false c e = ap (λ d. cond d u t) (sym e)

sooner-swap : (t u : Timer) (o : Option Timer) → t.number ≢ u.number → sooner u (Some (sooner t o)) ≡ sooner t (Some (sooner u o))
sooner-swap t u None ne = chosen t u (is_sooner t u) (is_sooner u t) (other-way t u ne)
sooner-swap t u (Some s) ne = by_tests (is_sooner s t) refl (is_sooner s u) refl
  where
    by_tests : (b : Bool) → is_sooner s t ≡ b → (c : Bool) → is_sooner s u ≡ c → sooner u (Some (cond b s t)) ≡ sooner t (Some (cond c s u))
    by_tests true h true k = ap (λ d. cond d s u) k ∙ ap (λ d. cond d s t) (sym h)
    by_tests true h false k = ap (λ d. cond d s u) k ∙ ap (λ d. cond d u t) (sym (past s u t k h))
    by_tests false h true k = ap (λ d. cond d t u) (past s t u h k) ∙ ap (λ d. cond d s t) (sym h)
    by_tests false h false k = chosen t u (is_sooner t u) (is_sooner u t) (other-way t u ne)

module _ (lt : Timer → Timer → Bool) where
  pub soonest-put : (t : Timer) (us : List Timer) → DifferFrom t.number us → soonest (put_by lt t us) ≡ Some (sooner t (soonest us))
  soonest-put t [] d = refl
  soonest-put t (u ∷ us) d =
      let rest = ap (λ o. Some (sooner u o)) (soonest-put t us d.1) ∙ ap Some (sooner-swap t u (soonest us) (λ e. d.0 (sym e))) in
      elim (lt t u) as (λ b. soonest (cond b (t ∷ u ∷ us) (u ∷ put_by lt t us)) ≡ Some (sooner t (Some (sooner u (soonest us))))) [ true ↦ refl | false ↦ rest ]

  pub soonest-sort : (next : ℕ) (ts : List Timer) → AreNumbered next ts → soonest (sort_by lt ts) ≡ soonest ts
  soonest-sort next [] r = refl
  soonest-sort next (t ∷ ts) r = soonest-put t (sort_by lt ts) (differ-sort lt t.number ts r.1) ∙ ap (λ o. Some (sooner t o)) (soonest-sort next ts r.2)

abbrev pub first : List Timer → Option Timer
first [] = None
first (t ∷ ts) = Some t

first-put : (t : Timer) (us : List Timer) → DifferFrom t.number us → first (put_by is_sooner t us) ≡ Some (sooner t (first us))
first-put t [] d = refl
first-put t (u ∷ us) d = by_test (is_sooner t u) (is_sooner u t) (other-way t u (λ e. d.0 (sym e)))
  where
    by_test : (b c : Bool) → c ≡ not b → first (cond b (t ∷ u ∷ us) (u ∷ put_by is_sooner t us)) ≡ Some (cond c u t)
    by_test true c e = ap (λ d. Some (cond d u t)) (sym e)
    by_test false c e = ap (λ d. Some (cond d u t)) (sym e)

pub first-sort : (next : ℕ) (ts : List Timer) → AreNumbered next ts → first (sort_by is_sooner ts) ≡ soonest ts
first-sort next [] r = refl
first-sort next (t ∷ ts) r = first-put t (sort_by is_sooner ts) (differ-sort is_sooner t.number ts r.1) ∙ ap (λ o. Some (sooner t o)) (first-sort next ts r.2)

-- where one stands does not matter
pub soonest-middle : (xs : List Timer) (t : Timer) (ys : List Timer) → DifferFrom t.number xs → soonest (xs ++ t ∷ ys) ≡ Some (sooner t (soonest (xs ++ ys)))
soonest-middle [] t ys d = refl
soonest-middle (x ∷ xs) t ys d = ap (λ o. Some (sooner x o)) (soonest-middle xs t ys d.1) ∙ ap Some (sooner-swap t x (soonest (xs ++ ys)) (λ e. d.0 (sym e)))
