-- Lists that are written element by element, with their numbers.
use Rattle.std.proofs.Common.{◌≡◌, ℕ, suc, ◌+◌, List, [], ◌∷◌, ◌++◌, Option, Some, refl, ap, ◌∙◌, map, length, arith}
use Rattle.std.specs.Prelude.{slice_get, filter_map}
use Rattle.std.proofs.lemmas.List.Elements.{filter_map-append}
use Rattle.dc_base.specs.Words.{numbered}

-- what is read of each
pub filter_map-numbered : {A B C : Type 0} (h : B → Option C) (f : ℕ → A → List B) (n : ℕ) (xs : List A) → filter_map h (numbered f n xs) ≡ numbered (λ n x. filter_map h (f n x)) n xs
filter_map-numbered h f n [] = refl
filter_map-numbered h f n (x ∷ xs) = filter_map-append h (f n x) (numbered f (n + 1) xs) ∙ ap (λ l. filter_map h (f n x) ++ l) (filter_map-numbered h f (n + 1) xs)

-- lists whose elements are written alike
pub numbered-alike : {A B C : Type 0} (f : ℕ → A → List C) (g : ℕ → B → List C) (n : ℕ) (xs : List A) (ys : List B) → length xs ≡ length ys →
    ((i b : ℕ) (x : A) (y : B) → b ≡ n + i → slice_get xs i ≡ Some x → slice_get ys i ≡ Some y → f b x ≡ g b y) → numbered f n xs ≡ numbered g n ys
numbered-alike f g n [] [] e h = refl
numbered-alike f g n [] (y ∷ ys) e h = absurd (omega (arith, e))
numbered-alike f g n (x ∷ xs) [] e h = absurd (omega (arith, e))
numbered-alike f g n (x ∷ xs) (y ∷ ys) e h =
    ap (λ l. l ++ numbered f (n + 1) xs) (h 0 n x y (omega arith) refl refl)
    ∙ ap (λ l. g n y ++ l) (numbered-alike f g (n + 1) xs ys (omega (arith, e)) (λ i b v w k p q. h (suc i) b v w (omega (arith, k)) p q))

pub numbered-same : {A C : Type 0} (f g : ℕ → A → List C) → ((b : ℕ) (x : A) → f b x ≡ g b x) → (n : ℕ) (xs : List A) → numbered f n xs ≡ numbered g n xs
numbered-same f g h n [] = refl
numbered-same f g h n (x ∷ xs) = ap (λ l. l ++ numbered f (n + 1) xs) (h n x) ∙ ap (λ l. g n x ++ l) (numbered-same f g h (n + 1) xs)

pub numbered-map : {A B C : Type 0} (f : ℕ → B → List C) (h : A → B) (n : ℕ) (xs : List A) → numbered f n (map h xs) ≡ numbered (λ n x. f n (h x)) n xs
numbered-map f h n [] = refl
numbered-map f h n (x ∷ xs) = ap (λ l. f n (h x) ++ l) (numbered-map f h (n + 1) xs)

pub numbered-none : {A C : Type 0} (f : ℕ → A → List C) → ((b : ℕ) (x : A) → f b x ≡ []) → (n : ℕ) (xs : List A) → numbered f n xs ≡ []
numbered-none f h n [] = refl
numbered-none f h n (x ∷ xs) = ap (λ l. l ++ numbered f (n + 1) xs) (h n x) ∙ numbered-none f h (n + 1) xs

-- what is read of each of a list
pub filter_map-map : {A B C : Type 0} (h : B → Option C) (f : A → B) (g : A → C) → ((x : A) → h (f x) ≡ Some (g x)) → (xs : List A) → filter_map h (map f xs) ≡ map g xs
filter_map-map h f g same [] = refl
filter_map-map h f g same (x ∷ xs) = rw (same x) (ap (λ l. g x ∷ l) (filter_map-map h f g same xs))
