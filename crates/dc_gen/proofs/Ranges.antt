-- The elements of a list made from a range.
use Rattle.std.proofs.Common.{◌≡◌, ℕ, zero, suc, ◌+◌, ◌<◌, ◌∙◌, map, Some, refl, ap, sym, subst, arith}
use Rattle.std.specs.Prelude.{slice_get}
use Rattle.std.specs.List.{range_with_len}
use Rattle.dc_base.specs.Words.{Each}

-- what stands at a place
pub record At {A : Type 0} (f : ℕ → A) (n i : ℕ) (x : A) : Type 0 where
  pub within : i < n
  pub is : x ≡ f i

from : {A : Type 0} (f : ℕ → A) (a n i : ℕ) (x : A) → slice_get (map f (range_with_len a n)) i ≡ Some x → (i < n) × (x ≡ f (a + i))
from f a zero i x e = cc
from f a (suc n) zero x e = let same : a + 0 ≡ a = omega arith in (omega arith, rw same cc)
from f a (suc n) (suc i) x e =
    let k = from f (a + 1) n i x e in
    let same : (a + 1) + i ≡ a + suc i = omega arith in
    (omega (arith, k.0), k.1 ∙ ap f same)

pub of_range : {A : Type 0} (f : ℕ → A) (n i : ℕ) (x : A) → slice_get (map f (range_with_len 0 n)) i ≡ Some x → At f n i x
of_range f n i x e =
    let k = from f 0 n i x e in
    let same : 0 + i ≡ i = omega arith in
    record { within = k.0; is = k.1 ∙ ap f same }

got : {A : Type 0} (f : ℕ → A) (a n i : ℕ) → i < n → slice_get (map f (range_with_len a n)) i ≡ Some (f (a + i))
got f a zero i lt = absurd (omega arith)
got f a (suc n) zero lt = let same : a + 0 ≡ a = omega arith in rw same refl
got f a (suc n) (suc i) lt =
    let same : (a + 1) + i ≡ a + suc i = omega arith in
    got f (a + 1) n i (omega arith) ∙ ap (λ k. Some (f k)) same

pub in_range : {A : Type 0} (f : ℕ → A) (n i : ℕ) → i < n → slice_get (map f (range_with_len 0 n)) i ≡ Some (f i)
in_range f n i lt = let same : 0 + i ≡ i = omega arith in got f 0 n i lt ∙ ap (λ k. Some (f k)) same

pub each_of_range : {A : Type 0} (P : ℕ → A → Type 0) (f : ℕ → A) (n : ℕ) → ((i : ℕ) → i < n → P i (f i)) → Each (map f (range_with_len 0 n)) P
each_of_range P f n h i x e = let k = of_range f n i x e in subst (P i) (sym k.is) (h i k.within)
