-- Lists from a place on.
use Rattle.std.proofs.Common.{◌≡◌, ℕ, zero, suc, ◌+◌, ◌<◌, ◌≤◌, List, [], ◌∷◌, ◌++◌, Option, Some, None, refl, sym, ap, ◌∙◌, length, drop, get_or, map, arith}
use Rattle.std.specs.Prelude.{slice_get}
use Rattle.std.proofs.lemmas.Option.{slice_get_past, slice_get_read}
use Rattle.dc_base.specs.Words.{numbered, elements}
use Rattle.dc_report.specs.Remaining.{from, from_within}

pub drop_there : {A : Type 0} (xs : List A) (n : ℕ) (x : A) → slice_get xs n ≡ Some x → drop n xs ≡ x ∷ drop (n + 1) xs
drop_there [] n x h = absurd cc
drop_there (a ∷ xs) zero x h = cc
drop_there (a ∷ xs) (suc n) x h = drop_there xs n x h ∙ ap (λ m. x ∷ drop m (a ∷ xs)) (let e : suc (n + 1) ≡ suc n + 1 = omega arith in e)

pub drop_over : {A : Type 0} (xs : List A) (n : ℕ) → slice_get xs n ≡ None → drop n xs ≡ []
drop_over [] zero h = refl
drop_over [] (suc n) h = refl
drop_over (a ∷ xs) zero h = absurd cc
drop_over (a ∷ xs) (suc n) h = drop_over xs n h

-- what is read at a place of a list, or that nothing is there
pub read_at : {A : Type 0} (xs ys : List A) (i : ℕ) (x : A) → xs ≡ ys → i < length xs → x ≡ get_or xs i x → slice_get ys i ≡ Some x
read_at xs ys i x same within e = ap (λ zs. slice_get zs i) (sym same) ∙ slice_get_read xs (length xs) i x refl within e

pub none_at : {A : Type 0} (xs ys : List A) (i : ℕ) → xs ≡ ys → length xs ≤ i → slice_get ys i ≡ None
none_at xs ys i same past = ap (λ zs. slice_get zs i) (sym same) ∙ slice_get_past xs i past

module _ {A B : Type 0} (f : ℕ → A → List B) where
  pub from_there : (xs : List A) (n : ℕ) (x : A) → slice_get xs n ≡ Some x → from f n xs ≡ f n x ++ from f (n + 1) xs
  from_there xs n x h = ap (numbered f n) (drop_there xs n x h)

  pub from_over : (xs : List A) (n : ℕ) → slice_get xs n ≡ None → from f n xs ≡ []
  from_over xs n h = ap (numbered f n) (drop_over xs n h)

  -- an element that gives nothing is passed
  pub from_passed : (xs : List A) (n : ℕ) (x : A) → slice_get xs n ≡ Some x → f n x ≡ [] → from f n xs ≡ from f (n + 1) xs
  from_passed xs n x h e = from_there xs n x h ∙ ap (λ l. l ++ from f (n + 1) xs) e

module _ {A B : Type 0} (g : ℕ → A → B) where
  abbrev all : ℕ → List A → List B
  all p xs = map (g p) xs

  pub within_there : (xss : List (List A)) (p i : ℕ) (x : A) → slice_get (elements (slice_get xss p)) i ≡ Some x → from_within all p i xss ≡ g p x ∷ from_within all p (i + 1) xss
  within_there xss p i x h = ap (λ l. map (g p) l ++ from all (p + 1) xss) (drop_there (elements (slice_get xss p)) i x h)

  -- the first element of list p, and what follows
  started : (xss : List (List A)) (p : ℕ) (o : Option (List A)) → slice_get xss p ≡ o → from all p xss ≡ from_within all p 0 xss
  started xss p None h = from_over all xss p h ∙ sym (ap (λ o. map (g p) (drop 0 (elements o)) ++ from all (p + 1) xss) h ∙ from_over all xss (p + 1) (slice_get_past xss (p + 1) (later xss p h)))
    where
      later : (xss : List (List A)) (p : ℕ) → slice_get xss p ≡ None → length xss ≤ p + 1
      later [] p e = omega arith
      later (xs ∷ xss) zero e = absurd cc
      later (xs ∷ xss) (suc p) e = let h = later xss p e in omega (arith, h)
  started xss p (Some xs) h = from_there all xss p xs h ∙ sym (ap (λ o. map (g p) (drop 0 (elements o)) ++ from all (p + 1) xss) h)

  pub from_started : (xss : List (List A)) (p : ℕ) → from all p xss ≡ from_within all p 0 xss
  from_started xss p = started xss p (slice_get xss p) refl

  -- the rest of list p is empty
  pub within_passed : (xss : List (List A)) (p i : ℕ) → slice_get (elements (slice_get xss p)) i ≡ None → from_within all p i xss ≡ from_within all (p + 1) 0 xss
  within_passed xss p i h = ap (λ l. map (g p) l ++ from all (p + 1) xss) (drop_over (elements (slice_get xss p)) i h) ∙ from_started xss (p + 1)

  pub within_over : (xss : List (List A)) (p i : ℕ) → length xss ≤ p → from_within all p i xss ≡ []
  within_over xss p i h =
      ap (λ o. map (g p) (drop i (elements o)) ++ from all (p + 1) xss) (slice_get_past xss p h)
      ∙ (ap (λ l. map (g p) l ++ from all (p + 1) xss) (none i) ∙ from_over all xss (p + 1) (slice_get_past xss (p + 1) (omega (arith, h))))
    where
      none : (i : ℕ) → drop i (elements {A = A} None) ≡ []
      none zero = refl
      none (suc i) = refl
