-- Counts of lists of which one element is set, and of their beginnings.
use Rattle.std.proofs.Common.{◌≡◌, ℕ, zero, suc, ◌+◌, ◌≤◌, Bool, true, false, cond, List, [], ◌∷◌, Some, refl, ap, ◌∙◌, arith, length, get_or, take}
use Rattle.std.specs.Prelude.{slice_get, slice_set, count_by}
use Rattle.std.specs.Option.{option_map_or}
use Rattle.std.proofs.lemmas.List.Sums.{sum_by-cons, sum_by-set, count_by_more_yes}
use Rattle.std.proofs.lemmas.Option.{get_or_from_slice_get, slice_get_within}
use Rattle.dc_base.specs.Words.{Each}

abbrev pub bit : Bool → ℕ
bit t = cond t 1 0

bit_small : (t : Bool) → bit t ≤ 1
bit_small true = omega arith
bit_small false = omega arith

module _ {X : Type 0} (p : X → Bool) where
  cons : (x : X) (xs : List X) → count_by p (x ∷ xs) ≡ bit (p x) + count_by p xs
  cons x xs = sum_by-cons (λ y. bit (p y)) x xs

  -- one element is set to another
  pub set_count : (xs : List X) (i : ℕ) (x y : X) → slice_get xs i ≡ Some x → count_by p (slice_set xs i y) + bit (p x) ≡ count_by p xs + bit (p y)
  set_count xs i x y at =
      let same : bit (p (get_or xs i x)) ≡ bit (p x) = ap (λ z. bit (p z)) (get_or_from_slice_get xs i x x at) in
      omega (arith, sum_by-set (λ z. bit (p z)) xs i y x (slice_get_within xs i x at), same)

  -- one element is set, if there is one at the place
  pub set_most : (xs : List X) (i : ℕ) (y : X) → count_by p (slice_set xs i y) ≤ count_by p xs + 1
  set_most [] i y = omega arith
  set_most (x ∷ xs) zero y = let a = cons x xs in let b = cons y xs in let low = bit_small (p y) in omega (arith, a, b, low)
  set_most (x ∷ xs) (suc i) y = let a = cons x xs in let b = cons x (slice_set xs i y) in let more = set_most xs i y in omega (arith, a, b, more)

  -- one element is set to one that does not count, if there is one at the place
  pub set_none : (xs : List X) (i : ℕ) (y : X) → p y ≡ false → count_by p (slice_set xs i y) ≤ count_by p xs
  set_none [] i y h = omega arith
  set_none (x ∷ xs) zero y h = let a = cons x xs in let b = cons y xs in let none : bit (p y) ≡ 0 = ap bit h in omega (arith, a, b, none)
  set_none (x ∷ xs) (suc i) y h = let a = cons x xs in let b = cons x (slice_set xs i y) in let more = set_none xs i y h in omega (arith, a, b, more)

  -- each element counts no more than that at its place in the other list
  pub none_more : (xs ys : List X) → length xs ≡ length ys → Each xs (λ i x. bit (p x) ≤ option_map_or (λ y. bit (p y)) (slice_get ys i) 0) → count_by p xs ≤ count_by p ys
  none_more [] ys same h = omega arith
  none_more (x ∷ xs) [] same h = absurd (omega (arith, same))
  none_more (x ∷ xs) (y ∷ ys) same h =
      let first = h 0 x refl in
      let more = none_more xs ys (omega (arith, same)) (λ i z at. h (suc i) z at) in
      let a = cons x xs in
      let b = cons y ys in
      omega (arith, first, more, a, b)

  -- a longer beginning counts no less
  pub take_more : (xs : List X) (m n : ℕ) → m ≤ n → count_by p (take m xs) ≤ count_by p (take n xs)
  take_more xs zero n h = omega arith
  take_more xs (suc m) zero h = absurd (omega (arith, h))
  take_more [] (suc m) (suc n) h = omega arith
  take_more (x ∷ xs) (suc m) (suc n) h =
      let a = cons x (take m xs) in
      let b = cons x (take n xs) in
      let more = take_more xs m n (omega (arith, h)) in
      omega (arith, a, b, more)

  -- a beginning with one element that counts more
  pub take_one : (xs : List X) (i : ℕ) (x : X) → slice_get xs i ≡ Some x → p x ≡ true → count_by p (take (i + 1) xs) ≡ count_by p (take i xs) + 1
  take_one xs i x at counts = count_by_more_yes p xs i x (slice_get_within xs i x at) (ap p (get_or_from_slice_get xs i x x at) ∙ counts)
