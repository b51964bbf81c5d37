-- Lists that are written back.
use Rattle.std.proofs.Common.{◌≡◌, ℕ, zero, suc, ◌<◌, List, [], ◌∷◌, ◌++◌, refl, sym, ap, ◌∙◌, subst, length, take, drop, get_or, arith}
use Rattle.std.specs.Prelude.{Some, slice_get, slice_set}
use Rattle.std.specs.List.{refill}
use Rattle.std.proofs.lemmas.List.{length-set}
use Rattle.dc_base.specs.Words.{change}

-- a list written back after a change of its own length
full : {X : Type 0} (ys xs : List X) → length ys ≡ length xs → take (length xs) (ys ++ drop (length ys) xs) ≡ ys
full [] [] h = refl
full [] (x ∷ xs) h = absurd (omega (arith, h))
full (y ∷ ys) [] h = absurd (omega (arith, h))
full (y ∷ ys) (x ∷ xs) h = ap (λ zs. y ∷ zs) (full ys xs (omega (arith, h)))

pub put_back : {X : Type 0} (xs ws : List X) (i : ℕ) (x : X) → ws ≡ xs → refill (length xs) xs (slice_set ws i x) ≡ slice_set xs i x
put_back xs ws i x e = ap (λ zs. refill (length xs) xs (slice_set zs i x)) e ∙ full (slice_set xs i x) xs (length-set xs i x)

same_set : {X : Type 0} (xs : List X) (i : ℕ) (d : X) → i < length xs → slice_set xs i (get_or xs i d) ≡ xs
same_set [] i d h = refl
same_set (x ∷ xs) zero d h = refl
same_set (x ∷ xs) (suc i) d h = ap (λ ys. x ∷ ys) (same_set xs i d (omega (arith, h)))

-- a place that keeps what it has
pub put_same : {X : Type 0} (xs ws : List X) (i : ℕ) (d x : X) → ws ≡ xs → i < length xs → x ≡ get_or ws i d → refill (length xs) xs (slice_set ws i x) ≡ xs
put_same xs ws i d x e h is = put_back xs ws i x e ∙ (ap (slice_set xs i) (is ∙ ap (λ zs. get_or zs i d) e) ∙ same_set xs i d h)

-- a place is changed by setting it
pub change_set : {X : Type 0} (f : X → X) (xs : List X) (i : ℕ) (x : X) → slice_get xs i ≡ Some x → change f i xs ≡ slice_set xs i (f x)
change_set f [] i x e = cc
change_set f (y ∷ ys) zero x e = let same : y ≡ x = cc in ap (λ z. f z ∷ ys) same
change_set f (y ∷ ys) (suc i) x e = ap (λ zs. y ∷ zs) (change_set f ys i x e)

-- what stands at a place of the list
pub there_at : {X : Type 0} (xs ws : List X) (i : ℕ) (d : X) → ws ≡ xs → i < length xs → slice_get xs i ≡ Some (get_or ws i d)
there_at xs ws i d e h = ap (λ zs. slice_get zs i) (sym e) ∙ within ws i d (subst (λ zs. i < length zs) (sym e) h)
  where
    within : {X : Type 0} (xs : List X) (i : ℕ) (d : X) → i < length xs → slice_get xs i ≡ Some (get_or xs i d)
    within [] i d h = absurd (omega (arith, h))
    within (x ∷ xs) zero d h = refl
    within (x ∷ xs) (suc i) d h = within xs i d (omega (arith, h))

-- a whole list written back
pub put_all : {X : Type 0} (n : ℕ) (xs ws vs : List X) → ws ≡ xs → length ws ≡ n → length vs ≡ length ws → refill n xs vs ≡ vs
put_all n xs ws vs e long size = ap (λ k. refill k xs vs) (sym long ∙ ap length e) ∙ full vs xs (size ∙ ap length e)
