-- Clocks and times stay in their bounds: the tools.
use Rattle.std.proofs.Common.{◌≡◌, ◌⊎◌, ℕ, zero, suc, ◌+◌, ◌*◌, ◌^◌, ◌≤◌, ◌<◌, List, [], ◌∷◌, Some, refl, sym, ap, ◌∙◌, subst, inl, inr, arith, ◌-◌}
use Rattle.std.proofs.lemmas.Int.{ints}
use Rattle.std.specs.Prelude.{slice_get, slice_set, ℤ, pos, negsuc, ◌+ℤ◌, ◌≤ℤ◌}
use Rattle.std.specs.List.{sum_by}
use Rattle.dc_base.specs.Bounded.{budget, IsFromZero}
use Rattle.dc_base.specs.States.{State, Core, Block, Whereabouts, rest, on, time_on, time_of, clock_of}
use Rattle.dc_base.specs.Words.{Each, above_zero}
use Rattle.dc_sound.proofs.Budgets.{used_of, used-set}
use Rattle.dc_block_sound.proofs.Elements.{same_or_not, SetCase, set_now, set_before, set_case}

clock_of-here : (cs : List Core) (c : ℕ) (k new : Core) → slice_get cs c ≡ Some k → clock_of (slice_set cs c new) c ≡ new.clock
clock_of-here [] c k new h = cc
clock_of-here (x ∷ cs) zero k new h = refl
clock_of-here (x ∷ cs) (suc c) k new h = clock_of-here cs c k new h

clock_of-other : (cs : List Core) (c d : ℕ) (new : Core) → (c ≡ d → ⊥) → clock_of (slice_set cs c new) d ≡ clock_of cs d
clock_of-other [] c d new n = refl
clock_of-other (x ∷ cs) zero zero new n = absurd (n refl)
clock_of-other (x ∷ cs) zero (suc d) new n = refl
clock_of-other (x ∷ cs) (suc c) zero new n = refl
clock_of-other (x ∷ cs) (suc c) (suc d) new n = clock_of-other cs c d new (λ e. n (ap suc e))

pub clock_of-at : (cs : List Core) (c : ℕ) (k : Core) → slice_get cs c ≡ Some k → clock_of cs c ≡ k.clock
clock_of-at [] c k h = cc
clock_of-at (x ∷ cs) zero k h = let e : x ≡ k = cc in ap (λ (m : Core). m.clock) e
clock_of-at (x ∷ cs) (suc c) k h = clock_of-at cs c k h

above-more : (k n : ℕ) (z w : ℤ) → pos k +ℤ z ≡ w → pos 0 ≤ℤ w → above_zero (pos (k + n) +ℤ z) ≡ above_zero w + n
above-more k n z (pos m) e h = let f : pos (k + n) +ℤ z ≡ pos (m + n) = omega (arith, ints, e) in ap above_zero f
above-more k n z (negsuc m) e h = absurd (omega (arith, ints, h))

-- a time of at least 0 moves on with the clock
pub time_on-more : (k n : ℕ) (z : ℤ) → pos 0 ≤ℤ (pos k +ℤ z) → time_on (k + n) z ≡ time_on k z + n
time_on-more k n z h = above-more k n z (pos k +ℤ z) refl h

-- what an entry does to the cores: at most one core's clock and budget grow
pub data Ticks (s t : State) (n : ℕ) : Type 0 where
  tick : (c : ℕ) (k new : Core) → slice_get s.cores c ≡ Some k → t.cores ≡ slice_set s.cores c new → new.used ≡ k.used + n → k.clock ≤ new.clock → new.clock ≤ k.clock + n * 2 ^ 32 → Ticks s t n
  no_tick : t.cores ≡ s.cores → n ≡ 0 → Ticks s t n

-- a clock moved on by at most so much
pub record MovedOn (n old new : ℕ) : Type 0 where
  pub gap : ℕ
  pub is : new ≡ old + gap
  pub most : gap ≤ n * 2 ^ 32

moved : (n old new : ℕ) → old ≤ new → new ≤ old + n * 2 ^ 32 → MovedOn n old new
moved n old new h k = record { gap = new - old; is = omega (arith, h); most = omega (arith, h, k) }

stood : (n old new : ℕ) → new ≡ old → MovedOn n old new
stood n old new h = record { gap = 0; is = omega (arith, h); most = omega arith }

module _ (s t : State) (n : ℕ) where
  pub budget_is : Ticks s t n → budget t ≡ budget s + n
  budget_is (tick c k new h q u a b) = ap (sum_by used_of) q ∙ used-set s.cores c k new n h u
  budget_is (no_tick q z) = ap (sum_by used_of) q ∙ omega (arith, z)

  clock_by : (c d : ℕ) (k new : Core) → slice_get s.cores c ≡ Some k → t.cores ≡ slice_set s.cores c new → k.clock ≤ new.clock → new.clock ≤ k.clock + n * 2 ^ 32 → (c ≡ d) ⊎ (c ≡ d → ⊥) → MovedOn n (clock_of s.cores d) (clock_of t.cores d)
  clock_by c d k new h q a b (inl e) =
      let old : clock_of s.cores d ≡ k.clock = ap (clock_of s.cores) (sym e) ∙ clock_of-at s.cores c k h in
      let now : clock_of t.cores d ≡ new.clock = ap (λ l. clock_of l d) q ∙ ap (clock_of (slice_set s.cores c new)) (sym e) ∙ clock_of-here s.cores c k new h in
      moved n _ _ (omega (arith, old, now, a)) (omega (arith, old, now, b))
  clock_by c d k new h q a b (inr o) = stood n _ _ (ap (λ l. clock_of l d) q ∙ clock_of-other s.cores c d new o)

  pub clock_moves : Ticks s t n → (d : ℕ) → MovedOn n (clock_of s.cores d) (clock_of t.cores d)
  clock_moves (tick c k new h q u a b) d = clock_by c d k new h q a b (same_or_not c d)
  clock_moves (no_tick q z) d = stood n _ _ (ap (λ l. clock_of l d) q)

  core_by : (c d : ℕ) (k new m : Core) → Each s.cores (λ c k. k.clock < 2 ^ 62 + budget s * 2 ^ 32) → slice_get s.cores c ≡ Some k → new.clock ≤ k.clock + n * 2 ^ 32 → SetCase s.cores c new d m → m.clock < 2 ^ 62 + (budget s + n) * 2 ^ 32
  core_by c d k new m p h b (set_now e q) = let o = p c k h in let f : m.clock ≡ new.clock = ap (λ (x : Core). x.clock) q in omega (arith, o, f, b)
  core_by c d k new m p h b (set_before e q) = let o = p d m q in omega (arith, o)

  -- the clocks stay below the bound, which grows with the budget
  pub clocks_bound : Ticks s t n → Each s.cores (λ c k. k.clock < 2 ^ 62 + budget s * 2 ^ 32) → Each t.cores (λ c k. k.clock < 2 ^ 62 + budget t * 2 ^ 32)
  clocks_bound (tick c k new h q u a b) p d m e =
      let r = core_by c d k new m p h b (set_case s.cores c new d m (ap (λ l. slice_get l d) (sym q) ∙ e)) in
      subst (λ u. m.clock < 2 ^ 62 + u * 2 ^ 32) (sym (budget_is (tick c k new h q u a b))) r
  clocks_bound (no_tick q z) p d m e =
      let r = p d m (ap (λ l. slice_get l d) (sym q) ∙ e) in
      subst (λ u. m.clock < 2 ^ 62 + u * 2 ^ 32) (sym (ap (sum_by used_of) q)) r

  -- a block after an entry: its time is not below 0, not below what it was, and within the bound
  pub record OnTime (b : ℕ) (z : Block) : Type 0 where
    pub was : Block
    pub was_at : slice_get s.blocks b ≡ Some was
    pub from_zero : IsFromZero t.cores z.whereabouts
    pub later : time_of s.cores was.whereabouts ≤ time_of t.cores z.whereabouts
    pub bound : time_of t.cores z.whereabouts < 2 ^ 62 + (budget s + n) * 2 ^ 32

  pub record InTime (w u : Whereabouts) : Type 0 where
    pub from_zero : IsFromZero t.cores u
    pub later : time_of s.cores w ≤ time_of t.cores u
    pub bound : time_of t.cores u < 2 ^ 62 + (budget s + n) * 2 ^ 32

  -- a block that stays where it is
  pub same_place : Ticks s t n → (w : Whereabouts) → IsFromZero s.cores w → time_of s.cores w < 2 ^ 62 + budget s * 2 ^ 32 → InTime w w
  same_place ticks (rest kept) z h = record { from_zero = tt; later = omega arith; bound = omega (arith, h) }
  same_place ticks (on c offset v) z h =
      let m = clock_moves ticks c in
      let f = ap (λ k. time_on k offset) m.is ∙ time_on-more (clock_of s.cores c) m.gap offset z in
      record { from_zero = omega (arith, ints, z, m.is); later = omega (arith, f); bound = omega (arith, f, h, m.most) }
