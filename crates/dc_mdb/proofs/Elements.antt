-- Numbers that are the same, and the elements of a list.
use Rattle.std.proofs.Common.{◌≡◌, ℕ, zero, suc, List, [], ◌∷◌, Bool, true, false, Option, Some, None, refl, sym, ap, ◌∙◌, arith, map}
use Rattle.std.specs.Prelude.{slice_get, if◌then◌else◌, filter, ◌==◌}
use Rattle.std.specs.Option.{option_map}
use Rattle.std.proofs.lemmas.Bool.Decides.{nat_tests}
use Rattle.std.proofs.lemmas.Option.{slice_get-map}

pub same_is : (n : ℕ) → (n == n) ≡ true
same_is n = grind (arith, nat_tests)

pub is_same : (m n : ℕ) → (m == n) ≡ true → m ≡ n
is_same m n h = grind (arith, nat_tests)

pub not_same : (m n : ℕ) → (m == n) ≡ false → m ≡ n → ⊥
not_same m n h e = grind (arith, nat_tests)

pub other_is : (m n : ℕ) → (m ≡ n → ⊥) → (m == n) ≡ false
other_is m n h = grind (arith, nat_tests)

-- it is one of the list
abbrev pub In : {A : Type 0} → List A → A → Type 0
In xs a = (i : ℕ) × (slice_get xs i ≡ Some a)

pub in_later : {A : Type 0} (x : A) (xs : List A) (a : A) → In xs a → In (x ∷ xs) a
in_later x xs a w = (suc w.0, w.1)

pub in_filter : {A : Type 0} (keep : A → Bool) (xs : List A) (a : A) → keep a ≡ true → (i : ℕ) → slice_get xs i ≡ Some a → In (filter keep xs) a
in_filter keep [] a k i e = absurd cc
in_filter keep (x ∷ xs) a k zero e = let same : x ≡ a = cc in (0, ap (λ t. slice_get (if t then x ∷ filter keep xs else filter keep xs) 0) (ap keep same ∙ k) ∙ e)
in_filter keep (x ∷ xs) a k (suc i) e = by_test (keep x) (in_filter keep xs a k i e)
  where
    by_test : (t : Bool) → In (filter keep xs) a → In (if t then x ∷ filter keep xs else filter keep xs) a
    by_test true w = in_later x (filter keep xs) a w
    by_test false w = w

pub in_map : {A B : Type 0} (f : A → B) (xs : List A) (a : A) → In xs a → In (map f xs) (f a)
in_map f xs a w = (w.0, slice_get-map f xs w.0 ∙ ap (option_map f) w.1)

-- an element of a list that was changed alike was one before
pub map_there : {A B : Type 0} (f : A → B) (xs : List A) (i : ℕ) (b : B) → slice_get (map f xs) i ≡ Some b → (a : A) × (slice_get xs i ≡ Some a) × (b ≡ f a)
map_there {A = A} f xs i b e = by_there (slice_get xs i) refl (sym (slice_get-map f xs i) ∙ e)
  where
    by_there : (o : Option A) → slice_get xs i ≡ o → option_map f o ≡ Some b → (a : A) × (slice_get xs i ≡ Some a) × (b ≡ f a)
    by_there None q g = absurd cc
    by_there (Some a) q g = (a, q, let same : f a ≡ b = cc in sym same)
