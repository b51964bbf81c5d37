-- The first element of a list that passes a test, where at most one does, and the list without it.
use Rattle.std.proofs.Common.{◌≡◌, ℕ, ◌+◌, ◌<◌, ◌≤◌, zero, suc, List, [], ◌∷◌, Bool, true, false, Some, None, refl, sym, ap, ◌∙◌, cond, length, drop, get_or, arith, inl, inr, subst, nat_lt, not, unwrap_or}
use Rattle.std.specs.Prelude.{◌||◌, ◌==◌, remove}
use Rattle.std.specs.List.{position, position_or_len, count_by, filter, find, list_any}
use Rattle.std.proofs.lemmas.Bool.{cases_Bool, ltb-false}
use Rattle.std.proofs.lemmas.Bool.Decides.{nat_tests}
use Rattle.std.proofs.lemmas.List.{drop_more}
use Rattle.std.proofs.lemmas.List.Sums.{sum_by-cons, prefix_len-le-length}
use Rattle.std.proofs.Math.Bool.{or-true}
use Rattle.dc_base.specs.States.{Member}
use Rattle.dc_base.specs.Outcomes.{has, share_blocks}

module _ {X : Type 0} (p : X → Bool) where
  -- the place, or the length where there is none
  pub place_of : (xs : List X) → unwrap_or (position p xs) (length xs) ≡ position_or_len p xs
  place_of xs = elim (cases_Bool (nat_lt (position_or_len p xs) (length xs))) [
    | inl below ↦ ap (λ t. unwrap_or (cond t (Some (position_or_len p xs)) None) (length xs)) below
    | inr above ↦ ap (λ t. unwrap_or (cond t (Some (position_or_len p xs)) None) (length xs)) above ∙ (
        let past : length xs ≤ position_or_len p xs = ltb-false _ _ above in
        omega (arith, past, prefix_len-le-length (λ x. not (p x)) xs))
  ]

  below_by : (xs : List X) (n : ℕ) → (list_any p xs ≡ true → n < length xs) → (t : Bool) → (t || list_any p xs) ≡ true → cond (not t) (1 + n) 0 < suc (length xs)
  below_by xs n more true h = omega arith
  below_by xs n more false h = let k = more h in omega (arith, k)

  pub place_within : (xs : List X) → list_any p xs ≡ true → position_or_len p xs < length xs
  place_within [] h = absurd (let bad : false ≡ true = h in cc)
  place_within (x ∷ xs) h = below_by xs (position_or_len p xs) (λ k. place_within xs k) (p x) h

  count_at : (x : X) (xs : List X) → count_by p (x ∷ xs) ≡ cond (p x) 1 0 + count_by p xs
  count_at x xs = sum_by-cons (λ y. cond (p y) 1 0) x xs

  others_by : (x : X) (xs : List X) → (count_by p xs ≡ 0 → filter (λ y. not (p y)) xs ≡ xs) → (t : Bool) → cond t 1 0 + count_by p xs ≡ 0 → cond (not t) (x ∷ filter (λ y. not (p y)) xs) (filter (λ y. not (p y)) xs) ≡ x ∷ xs
  others_by x xs more true h = absurd (omega (arith, h))
  others_by x xs more false h = ap (λ ys. x ∷ ys) (more (omega (arith, h)))

  others_all : (xs : List X) → count_by p xs ≡ 0 → filter (λ y. not (p y)) xs ≡ xs
  others_all [] h = refl
  others_all (x ∷ xs) h = others_by x xs (λ k. others_all xs k) (p x) (sym (count_at x xs) ∙ h)

  none_by : (x : X) (xs : List X) → (count_by p xs ≡ 0 → filter p xs ≡ []) → (t : Bool) → cond t 1 0 + count_by p xs ≡ 0 → cond t (x ∷ filter p xs) (filter p xs) ≡ []
  none_by x xs more true h = absurd (omega (arith, h))
  none_by x xs more false h = more (omega (arith, h))

  none_found : (xs : List X) → count_by p xs ≡ 0 → filter p xs ≡ []
  none_found [] h = refl
  none_found (x ∷ xs) h = none_by x xs (λ k. none_found xs k) (p x) (sym (count_at x xs) ∙ h)

  out_by : (x : X) (xs : List X) (n : ℕ) → (list_any p xs ≡ true → count_by p xs ≤ 1 → remove xs n ≡ filter (λ y. not (p y)) xs) → (t : Bool) → (t || list_any p xs) ≡ true → cond t 1 0 + count_by p xs ≤ 1 →
      remove (x ∷ xs) (cond (not t) (1 + n) 0) ≡ cond (not t) (x ∷ filter (λ y. not (p y)) xs) (filter (λ y. not (p y)) xs)
  out_by x xs n more true h c = sym (others_all xs (omega (arith, c)))
  out_by x xs n more false h c = let e : 1 + n ≡ suc n = omega arith in rw e (ap (λ ys. x ∷ ys) (more h (omega (arith, c))))

  pub taken_out : (xs : List X) → list_any p xs ≡ true → count_by p xs ≤ 1 → remove xs (position_or_len p xs) ≡ filter (λ y. not (p y)) xs
  taken_out [] h c = absurd (let bad : false ≡ true = h in cc)
  taken_out (x ∷ xs) h c = out_by x xs (position_or_len p xs) (λ k l. taken_out xs k l) (p x) h (subst (λ n. n ≤ 1) (count_at x xs) c)

  one_by : (x : X) (xs : List X) (n : ℕ) (d : X) → (list_any p xs ≡ true → count_by p xs ≤ 1 → filter p xs ≡ get_or xs n d ∷ []) → (t : Bool) → (t || list_any p xs) ≡ true → cond t 1 0 + count_by p xs ≤ 1 →
      cond t (x ∷ filter p xs) (filter p xs) ≡ get_or (x ∷ xs) (cond (not t) (1 + n) 0) d ∷ []
  one_by x xs n d more true h c = ap (λ ys. x ∷ ys) (none_found xs (omega (arith, c)))
  one_by x xs n d more false h c = let e : 1 + n ≡ suc n = omega arith in rw e (more h (omega (arith, c)))

  pub found_alone : (xs : List X) (d : X) → list_any p xs ≡ true → count_by p xs ≤ 1 → filter p xs ≡ get_or xs (position_or_len p xs) d ∷ []
  found_alone [] d h c = absurd (let bad : false ≡ true = h in cc)
  found_alone (x ∷ xs) d h c = one_by x xs (position_or_len p xs) d (λ k l. found_alone xs d k l) (p x) h (subst (λ n. n ≤ 1) (count_at x xs) c)

pub place_or : (b : ℕ) (xs : List Member) → unwrap_or (position (λ (m : Member). m.block == b) xs) (length xs) ≡ position_or_len (λ (m : Member). m.block == b) xs
place_or b xs = place_of (λ (m : Member). m.block == b) xs

pub place_below : (b : ℕ) (xs : List Member) → has xs b ≡ true → position_or_len (λ (m : Member). m.block == b) xs < length xs
place_below b xs h = place_within (λ (m : Member). m.block == b) xs h

-- the element at a place is listed
same_number : (b : ℕ) → (b == b) ≡ true
same_number b = grind (arith, nat_tests)

pub has_at : (xs : List Member) (i : ℕ) (d : Member) → i < length xs → has xs (get_or xs i d).block ≡ true
has_at [] i d h = absurd (omega (arith, h))
has_at (m ∷ ms) zero d h = ap (λ t. t || has ms m.block) (same_number m.block)
has_at (m ∷ ms) (suc i) d h = ap (λ t. (m.block == (get_or ms i d).block) || t) (has_at ms i d (omega (arith, h))) ∙ or-true (m.block == (get_or ms i d).block)

-- the first runnable block from a place on
first_by : (is_runnable : ℕ → Bool) (b : ℕ) (bs : List ℕ) (t : Bool) → is_runnable b ≡ t → (t ≡ true → find is_runnable (b ∷ bs) ≡ Some b) × (t ≡ false → find is_runnable (b ∷ bs) ≡ find is_runnable bs)
first_by is_runnable b bs t e = (λ h. ap (λ u. cond u (Some b) (find is_runnable bs)) (e ∙ h), λ h. ap (λ u. cond u (Some b) (find is_runnable bs)) (e ∙ h))

pub runnable_here : (is_runnable : ℕ → Bool) (xs : List Member) (i : ℕ) (d : Member) → i < length xs → is_runnable (get_or xs i d).block ≡ true → find is_runnable (share_blocks (drop i xs)) ≡ Some (get_or xs i d).block
runnable_here is_runnable xs i d h r = rw (drop_more xs i d h) ((first_by is_runnable (get_or xs i d).block (share_blocks (drop (i + 1) xs)) true r).0 refl)

pub none_left : (is_runnable : ℕ → Bool) (xs : List Member) (i : ℕ) → length xs ≤ i → find is_runnable (share_blocks (drop i xs)) ≡ None
none_left is_runnable [] zero h = refl
none_left is_runnable [] (suc i) h = refl
none_left is_runnable (m ∷ ms) zero h = absurd (omega (arith, h))
none_left is_runnable (m ∷ ms) (suc i) h = none_left is_runnable ms i (omega (arith, h))
