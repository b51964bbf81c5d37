-- The soonest of a list, by what stands at its places.
use Rattle.std.proofs.Common.{◌≡◌, ◌≢◌, ◌<◌, ◌≤◌, ◌+◌, ℕ, zero, suc, Bool, true, false, cond, List, [], ◌∷◌, length, get_or, sym, refl, ap, ◌∙◌, subst, ⊎_elim, arith}
use Rattle.std.specs.Prelude.{◌==◌, ◌||◌, ◌&&◌, Option, Some, None, nat_lt, slice_get}
use Rattle.std.specs.Option.{option_map}
use Rattle.std.proofs.lemmas.Bool.{cases_lt}
use Rattle.std.proofs.lemmas.Bool.Decides.{nat_tests}
use Rattle.std.proofs.lemmas.Option.{none-some, same_Some, slice_get_within, slice_get-get_or}
use Rattle.dc_base.specs.declared.interrupts.Timer.{Timer}
use Rattle.dc_base.specs.Timers.{is_sooner, sooner, soonest}
use Rattle.dc_timers.specs.Numbers.{DifferFrom, AreNumbered}
use Rattle.dc_timers.proofs.TimerOrders.{in_order-order}

never-itself : (a m : ℕ) → (nat_lt a a || (a == a && nat_lt m m)) ≡ false
never-itself a m = grind (arith, nat_tests)

never-both : (a m b n : ℕ) → (nat_lt a b || (a == b && nat_lt m n)) ≡ true → (nat_lt b a || (b == a && nat_lt n m)) ≡ false
never-both a m b n h = grind (arith, nat_tests)

goes-on : (a l b m c n : ℕ) → (nat_lt a b || (a == b && nat_lt l m)) ≡ false → (nat_lt b c || (b == c && nat_lt m n)) ≡ false → (nat_lt a c || (a == c && nat_lt l n)) ≡ false
goes-on a l b m c n h k = grind (arith, nat_tests)

same-numbers : (a m b n : ℕ) → (nat_lt a b || (a == b && nat_lt m n)) ≡ false → (nat_lt b a || (b == a && nat_lt n m)) ≡ false → m ≡ n
same-numbers a m b n h k = grind (arith, nat_tests)

not-itself : (t : Timer) → is_sooner t t ≡ false
not-itself t = never-itself t.deadline t.number

not-both : (t u : Timer) → is_sooner t u ≡ true → is_sooner u t ≡ false
not-both t u h = never-both t.deadline t.number u.deadline u.number h

not-sooner : (t u v : Timer) → is_sooner t u ≡ false → is_sooner u v ≡ false → is_sooner t v ≡ false
not-sooner t u v h k = goes-on t.deadline t.number u.deadline u.number v.deadline v.number h k

-- no timer of the list is sooner
abbrev NoSooner : List Timer → Timer → Type 0
NoSooner ts s = (j : ℕ) (u : Timer) → slice_get ts j ≡ Some u → is_sooner u s ≡ false

of_first : (t : Timer) (ts : List Timer) (s : Timer) → is_sooner t s ≡ false → NoSooner ts s → NoSooner (t ∷ ts) s
of_first t ts s h more zero u e = subst (λ (x : Timer). is_sooner x s ≡ false) (same_Some t u e) h
of_first t ts s h more (suc j) u e = more j u e

pub soonest-least : (ts : List Timer) (s : Timer) → soonest ts ≡ Some s → NoSooner ts s
soonest-least [] s e = absurd (none-some s e)
soonest-least (t ∷ ts) s e = by_rest (soonest-least ts) ts refl
  where
    by_test : (m : Timer) → NoSooner ts m → (b : Bool) → is_sooner m t ≡ b → cond b m t ≡ s → NoSooner (t ∷ ts) s
    by_test m more true h q = subst (NoSooner (t ∷ ts)) q (of_first t ts m (not-both m t h) more)
    by_test m more false h q = subst (NoSooner (t ∷ ts)) q (of_first t ts t (not-itself t) (λ j u g. not-sooner u m t (more j u g) h))

    by_rest : ((m : Timer) → soonest ts ≡ Some m → NoSooner ts m) → (us : List Timer) → ts ≡ us → NoSooner (t ∷ ts) s
    by_rest more [] q =
        let only : t ≡ s = same_Some t s (ap (λ xs. Some (sooner t (soonest xs))) (sym q) ∙ e) in
        subst (NoSooner (t ∷ ts)) only (of_first t ts t (not-itself t) (λ j u g. absurd (none-some u (ap (λ xs. slice_get xs j) (sym q) ∙ g))))
    by_rest more (u ∷ us) q =
        let m : Timer = sooner u (soonest us) in
        let is_m : soonest ts ≡ Some m = ap soonest q in
        by_test m (more m is_m) (is_sooner m t) refl (same_Some (cond (is_sooner m t) m t) s (ap (λ o. Some (sooner t o)) (sym is_m) ∙ e))

pub soonest-there : (ts : List Timer) (s : Timer) → soonest ts ≡ Some s → (j : ℕ) × (slice_get ts j ≡ Some s)
soonest-there [] s e = absurd (none-some s e)
soonest-there (t ∷ ts) s e = by_rest (soonest-there ts s) (soonest ts) refl (same_Some (sooner t (soonest ts)) s e)
  where
    by_rest : (soonest ts ≡ Some s → (j : ℕ) × (slice_get ts j ≡ Some s)) → (o : Option Timer) → soonest ts ≡ o → sooner t o ≡ s → (j : ℕ) × (slice_get (t ∷ ts) j ≡ Some s)
    by_rest more None q f = (0, ap Some f)
    by_rest more (Some m) q f = by_test (is_sooner m t) f
      where
        by_test : (b : Bool) → cond b m t ≡ s → (j : ℕ) × (slice_get (t ∷ ts) j ≡ Some s)
        by_test true g = let r = more (q ∙ ap Some g) in (suc r.0, r.1)
        by_test false g = (0, ap Some g)

pub differ-at : (n j : ℕ) (ts : List Timer) (u : Timer) → DifferFrom n ts → slice_get ts j ≡ Some u → u.number ≢ n
differ-at n j [] u d e = absurd (none-some u e)
differ-at n zero (t ∷ ts) u d e = subst (λ (x : Timer). x.number ≢ n) (same_Some t u e) d.0
differ-at n (suc j) (t ∷ ts) u d e = differ-at n j ts u d.1 e

numbered-same : (next : ℕ) (ts : List Timer) (i j : ℕ) (r s : Timer) → AreNumbered next ts → slice_get ts i ≡ Some r → slice_get ts j ≡ Some s → s.number ≡ r.number → s ≡ r
numbered-same next [] i j r s n e f same = absurd (none-some r e)
numbered-same next (t ∷ ts) zero zero r s n e f same = sym (same_Some t s f) ∙ same_Some t r e
numbered-same next (t ∷ ts) zero (suc j) r s n e f same = absurd (differ-at t.number j ts s n.1 f (same ∙ ap (λ (x : Timer). x.number) (sym (same_Some t r e))))
numbered-same next (t ∷ ts) (suc i) zero r s n e f same = absurd (differ-at t.number i ts r n.1 e (sym same ∙ ap (λ (x : Timer). x.number) (sym (same_Some t s f))))
numbered-same next (t ∷ ts) (suc i) (suc j) r s n e f same = numbered-same next ts i j r s n.2 e f same

-- one that is not later than the soonest is the soonest
pub soonest-same : (next : ℕ) (ts : List Timer) (i : ℕ) (r s : Timer) → AreNumbered next ts → slice_get ts i ≡ Some r → soonest ts ≡ Some s → is_sooner s r ≡ false → soonest ts ≡ Some r
soonest-same next ts i r s n e so h =
    let k = soonest-least ts s so i r e in
    let there = soonest-there ts s so in
    so ∙ ap Some (numbered-same next ts i there.0 r s n e there.1 (same-numbers s.deadline s.number r.deadline r.number h k))

-- one that no other is sooner than is the soonest
pub soonest-at : (next : ℕ) (ts : List Timer) (i : ℕ) (r : Timer) → AreNumbered next ts → slice_get ts i ≡ Some r → NoSooner ts r → soonest ts ≡ Some r
soonest-at next ts i r n e least = by_list ts refl
  where
    by_list : (us : List Timer) → ts ≡ us → soonest ts ≡ Some r
    by_list [] q = absurd (none-some r (ap (λ xs. slice_get xs i) (sym q) ∙ e))
    by_list (u ∷ us) q =
        let s : Timer = sooner u (soonest us) in
        let so : soonest ts ≡ Some s = ap soonest q in
        let there = soonest-there ts s so in
        soonest-same next ts i r s n e so (least there.0 s there.1)

-- a search goes one place on
pub record IsSoFar (ts : List Timer) (from to i best : ℕ) : Type 0 where
  pub low : from ≤ best
  pub high : best < i
  pub within : best < to
  pub least : (j : ℕ) (t u : Timer) → from ≤ j → j < i → slice_get ts best ≡ Some t → slice_get ts j ≡ Some u → is_sooner u t ≡ false

module _ (ts : List Timer) (from to i best : ℕ) (o p : Timer) (is : IsSoFar ts from to i best) (inside : i < to) (long : to ≤ length ts) where
  at_i : slice_get ts i ≡ Some (get_or ts i o)
  at_i = slice_get-get_or ts i o (omega arith)

  at_best : slice_get ts best ≡ Some (get_or ts best p)
  at_best = let within = is.within in slice_get-get_or ts best p (omega arith)

  pub sooner-found : is_sooner (get_or ts i o) (get_or ts best p) ≡ true → IsSoFar ts from to (i + 1) i
  sooner-found h = record {
    low = let low = is.low in let high = is.high in omega arith;
    high = omega arith;
    within = inside;
    least = λ j t u lo hi e f.
        let t_is : get_or ts i o ≡ t = same_Some (get_or ts i o) t (sym at_i ∙ e) in
        subst (λ (x : Timer). is_sooner u x ≡ false) t_is (⊎_elim
        (λ (lt : j < i). in_order-order.on u (get_or ts best p) (get_or ts i o) (is.least j (get_or ts best p) u lo lt at_best f) h)
        (λ (ge : i ≤ j).
        let same : j ≡ i = omega arith in
        let u_is : get_or ts i o ≡ u = same_Some (get_or ts i o) u (sym at_i ∙ (ap (slice_get ts) (sym same) ∙ f)) in
        subst (λ (x : Timer). is_sooner x (get_or ts i o) ≡ false) u_is (not-itself (get_or ts i o)))
        (cases_lt j i));
  }

  pub sooner-not_found : is_sooner (get_or ts i o) (get_or ts best p) ≡ false → IsSoFar ts from to (i + 1) best
  sooner-not_found h = record {
    low = is.low;
    high = let high = is.high in omega arith;
    within = is.within;
    least = λ j t u lo hi e f. ⊎_elim
        (λ (lt : j < i). is.least j t u lo lt e f)
        (λ (ge : i ≤ j).
        let same : j ≡ i = omega arith in
        let u_is : get_or ts i o ≡ u = same_Some (get_or ts i o) u (sym at_i ∙ (ap (slice_get ts) (sym same) ∙ f)) in
        let t_is : get_or ts best p ≡ t = same_Some (get_or ts best p) t (sym at_best ∙ e) in
        subst (λ (x : Timer). is_sooner x t ≡ false) u_is (subst (λ (x : Timer). is_sooner (get_or ts i o) x ≡ false) t_is h))
        (cases_lt j i);
  }

pub so_far-begun : (ts : List Timer) (from to : ℕ) → from < to → IsSoFar ts from to (from + 1) from
so_far-begun ts from to lt = record {
  low = omega arith;
  high = omega arith;
  within = lt;
  least = λ j t u lo hi e f.
      let same : j ≡ from = omega arith in
      subst (λ (x : Timer). is_sooner x t ≡ false) (same_Some t u (sym e ∙ (ap (slice_get ts) (sym same) ∙ f))) (not-itself t);
}

pub least-found : (next : ℕ) (ts : List Timer) (at : ℕ) (o : Timer) → AreNumbered next ts → at < length ts
    → ((j : ℕ) (t u : Timer) → 0 ≤ j → j < length ts → slice_get ts at ≡ Some t → slice_get ts j ≡ Some u → is_sooner u t ≡ false)
    → Some (get_or ts at o).deadline ≡ option_map (λ (t : Timer). t.deadline) (soonest ts)
least-found next ts at o n lt least =
    let there = slice_get-get_or ts at o lt in
    ap (option_map (λ (t : Timer). t.deadline)) (sym (soonest-at next ts at (get_or ts at o) n there (λ j u f. least j (get_or ts at o) u (omega arith) (slice_get_within ts j u f) there f)))
