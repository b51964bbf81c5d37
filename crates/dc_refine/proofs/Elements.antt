-- Elements of lists after a change.
use Rattle.std.proofs.Common.{◌≡◌, ℕ, zero, suc, ◌<◌, List, [], ◌∷◌, false, Option, Some, None, refl, sym, ap, ◌∙◌, map, length, arith}
use Rattle.std.specs.Prelude.{slice_get, slice_set, ◌==◌}
use Rattle.std.proofs.lemmas.Bool.Decides.{nat_tests}
use Rattle.std.specs.Option.{option_map}
use Rattle.std.proofs.lemmas.Option.{slice_get-map}
use Rattle.dc_base.specs.Words.{change}

-- what was set is there
pub slice_get-set_same : {A : Type 0} → (xs : List A) (i : ℕ) (x y : A) → slice_get xs i ≡ Some x → slice_get (slice_set xs i y) i ≡ Some y
slice_get-set_same [] i x y h = cc
slice_get-set_same (a ∷ xs) zero x y h = refl
slice_get-set_same (a ∷ xs) (suc i) x y h = slice_get-set_same xs i x y h

-- what stands there set again changes nothing
pub slice_set-same : {A : Type 0} → (xs : List A) (i : ℕ) (x : A) → slice_get xs i ≡ Some x → slice_set xs i x ≡ xs
slice_set-same [] i x h = refl
slice_set-same (a ∷ xs) zero x h = let e : a ≡ x = cc in ap (λ v. v ∷ xs) (sym e)
slice_set-same (a ∷ xs) (suc i) x h = ap (λ v. a ∷ v) (slice_set-same xs i x h)

-- a change at a place where something stands is a set
pub change-is_set : {A : Type 0} → (f : A → A) (xs : List A) (i : ℕ) (x : A) → slice_get xs i ≡ Some x → change f i xs ≡ slice_set xs i (f x)
change-is_set f [] i x h = refl
change-is_set f (a ∷ xs) zero x h = let e : a ≡ x = cc in ap (λ v. f v ∷ xs) e
change-is_set f (a ∷ xs) (suc i) x h = ap (λ v. a ∷ v) (change-is_set f xs i x h)

-- lists that two readings make alike have elements that they make alike
pub same_at : {A B C : Type 0} → (f : A → C) (g : B → C) (xs : List A) (ys : List B) (i : ℕ) (x : A) (y : B) → map f xs ≡ map g ys → slice_get xs i ≡ Some x → slice_get ys i ≡ Some y → f x ≡ g y
same_at f g xs ys i x y e hx hy =
    let both : Some (f x) ≡ Some (g y) = sym (slice_get-map f xs i ∙ ap (option_map f) hx) ∙ ap (λ l. slice_get l i) e ∙ slice_get-map g ys i ∙ ap (option_map g) hy in
    cc

-- where the one has an element the other has too
pub there_by : {A B : Type 0} → (g : B → A) (v : A) (o : Option B) → Some v ≡ option_map g o → (y : B) × (o ≡ Some y)
there_by g v None h = cc
there_by g v (Some y) h = (y, refl)

pub there_too : {A B C : Type 0} → (f : A → C) (g : B → C) (xs : List A) (ys : List B) (i : ℕ) (x : A) → map f xs ≡ map g ys → slice_get xs i ≡ Some x → (y : B) × (slice_get ys i ≡ Some y)
there_too f g xs ys i x e hx = there_by g (f x) (slice_get ys i) (sym (slice_get-map f xs i ∙ ap (option_map f) hx) ∙ ap (λ l. slice_get l i) e ∙ slice_get-map g ys i)

pub slice_get-set_other : {A : Type 0} → (xs : List A) (i j : ℕ) (y : A) → (j == i) ≡ false → slice_get (slice_set xs i y) j ≡ slice_get xs j
slice_get-set_other [] i j y h = refl
slice_get-set_other (x ∷ xs) zero zero y h = cc
slice_get-set_other (x ∷ xs) zero (suc j) y h = refl
slice_get-set_other (x ∷ xs) (suc i) zero y h = refl
slice_get-set_other (x ∷ xs) (suc i) (suc j) y h = slice_get-set_other xs i j y (grind (arith, nat_tests, h))

-- changes at several places, one after another
abbrev pub changes : {A : Type 0} → (A → A) → List ℕ → List A → List A
changes f [] xs = xs
changes f (b ∷ bs) xs = changes f bs (change f b xs)

pub map-change : {A B : Type 0} → (f : A → B) (g : A → A) (h : B → B) (same : (x : A) → f (g x) ≡ h (f x)) (i : ℕ) (xs : List A) → map f (change g i xs) ≡ change h i (map f xs)
map-change f g h same i [] = refl
map-change f g h same zero (x ∷ xs) = ap (λ v. v ∷ map f xs) (same x)
map-change f g h same (suc i) (x ∷ xs) = ap (λ v. f x ∷ v) (map-change f g h same i xs)

pub map-changes : {A B : Type 0} → (f : A → B) (g : A → A) (h : B → B) (same : (x : A) → f (g x) ≡ h (f x)) (bs : List ℕ) (xs : List A) → map f (changes g bs xs) ≡ changes h bs (map f xs)
map-changes f g h same [] xs = refl
map-changes f g h same (b ∷ bs) xs = map-changes f g h same bs (change g b xs) ∙ ap (changes h bs) (map-change f g h same b xs)

change_nothing : {A : Type 0} → (i : ℕ) (xs : List A) → change (λ x. x) i xs ≡ xs
change_nothing i [] = refl
change_nothing zero (x ∷ xs) = refl
change_nothing (suc i) (x ∷ xs) = ap (λ v. x ∷ v) (change_nothing i xs)

changes_nothing : {A : Type 0} → (bs : List ℕ) (xs : List A) → changes (λ x. x) bs xs ≡ xs
changes_nothing [] xs = refl
changes_nothing (b ∷ bs) xs = ap (changes (λ x. x) bs) (change_nothing b xs) ∙ changes_nothing bs xs

-- a reading that the changes leave alone
pub map-changes_same : {A B : Type 0} → (f : A → B) (g : A → A) (same : (x : A) → f (g x) ≡ f x) (bs : List ℕ) (xs : List A) → map f (changes g bs xs) ≡ map f xs
map-changes_same f g same bs xs = map-changes f g (λ x. x) same bs xs ∙ changes_nothing bs (map f xs)

pub length-change : {A : Type 0} → (f : A → A) (i : ℕ) (xs : List A) → length (change f i xs) ≡ length xs
length-change f i [] = refl
length-change f zero (x ∷ xs) = refl
length-change f (suc i) (x ∷ xs) = ap suc (length-change f i xs)

-- every number is below n
abbrev pub AllBelow : ℕ → List ℕ → Type 0
AllBelow n [] = Unit {0}
AllBelow n (b ∷ bs) = (b < n) × AllBelow n bs

pub there_below : {A : Type 0} → (xs : List A) (i : ℕ) → i < length xs → (x : A) × (slice_get xs i ≡ Some x)
there_below [] i h = absurd (omega arith)
there_below (x ∷ xs) zero h = (x, refl)
there_below (x ∷ xs) (suc i) h = there_below xs i (omega arith)
