-- Lists that are built element by element, each by a rule that sees the ones before.
use Rattle.std.proofs.Common.{◌≡◌, ℕ, zero, suc, ◌<◌, Bool, true, false, List, [], ◌∷◌, ◌++◌, length, take, Ok, Some, refl, sym, ap, ◌∙◌, subst, arith, decimal, inl, inr}
use Rattle.std.specs.Prelude.{slice_get, ⊤, ◌||◌}
use Rattle.std.specs.List.{list_any}
use Rattle.std.proofs.lemmas.Bool.{cases_lt, false≢true}
use Rattle.std.proofs.Math.Bool.{or-true}
use mathlib.Core.List.{append_assoc}
use Rattle.toml.specs.Data.{Items, no_items, item}
use Rattle.dc_base.specs.Words.{Each}
use Rattle.dc_image.specs.KeyText.{under}
use Rattle.dc_image.specs.ImageKeys.{Rule, item_count, items_read}
use Rattle.dc_image.proofs.Chains.{chained}

-- behind these elements, each has the fact with those before it
abbrev pub BuiltFrom : {A : Type 0} → (List A → A → Type 0) → List A → List A → Type 0
BuiltFrom P before [] = ⊤
BuiltFrom P before (x ∷ xs) = P before x × BuiltFrom P (before ++ x ∷ []) xs

pub record Read {A : Type 0} (P : List A → A → Type 0) (before : List A) (count : ℕ) (all : List A) : Type 0 where
  pub added : List A
  pub all_is : all ≡ before ++ added
  pub built : BuiltFrom P before added
  pub count_is : length added ≡ count

append-nil : {A : Type 0} (xs : List A) → xs ≡ xs ++ []
append-nil [] = refl
append-nil (x ∷ xs) = ap (λ ys. x ∷ ys) (append-nil xs)

one_more : {A : Type 0} (P : List A → A → Type 0) (before : List A) (x : A) (count : ℕ) (all : List A) → P before x → Read P (before ++ x ∷ []) count all → Read P before (suc count) all
one_more P before x count all here r = record {
  added = x ∷ r.added;
  all_is = r.all_is ∙ append_assoc before (x ∷ []) r.added;
  built = (here, r.built);
  count_is = ap suc r.count_is;
}

-- what every element has that the rule gives, the elements of an array have
pub items_built : {A : Type 0} (rule : List A → Rule A) (P : List A → A → Type 0) (law : (before : List A) (key : List ℕ) (d : _) (x : A) → rule before key d ≡ Ok x → P before x)
    (before : List A) (key : List ℕ) (ds : Items) (all : List A) → items_read rule before key ds ≡ Ok all → Read P before (item_count ds) all
items_built rule P law before key no_items all e = let same : before ≡ all = cc in record { added = []; all_is = sym same ∙ append-nil before; built = tt; count_is = refl }
items_built rule P law before key (item d ds) all e =
    let s = chained (rule before (under key (decimal (length before))) d) _ all e in
    one_more P before s.first (item_count ds) all (law before _ d s.first s.was) (items_built rule P law (before ++ s.first ∷ []) key ds all s.after)

-- an element has the fact with those before it
built_at : {A : Type 0} (P : List A → A → Type 0) (before xs : List A) → BuiltFrom P before xs → (i : ℕ) (x : A) → slice_get xs i ≡ Some x → P (before ++ take i xs) x
built_at P before [] b i x e = cc
built_at P before (y ∷ xs) b zero x e = let same : y ≡ x = cc in subst (P (before ++ [])) same (subst (λ ys. P ys y) (append-nil before) b.0)
built_at P before (y ∷ xs) b (suc i) x e = subst (λ ys. P ys x) (append_assoc before (y ∷ []) (take i xs)) (built_at P (before ++ y ∷ []) xs b.1 i x e)

-- each element has the fact with those before it
abbrev pub IsBuilt : {A : Type 0} → (List A → A → Type 0) → List A → Type 0
IsBuilt P xs = Each xs (λ i x. P (take i xs) x)

pub is_built : {A : Type 0} (P : List A → A → Type 0) (count : ℕ) (all : List A) → Read P [] count all → IsBuilt P all
is_built P count all r = subst (IsBuilt P) (sym r.all_is) (built_at P [] r.added r.built)

any_at : {A : Type 0} (q : A → Bool) (xs : List A) (i : ℕ) (x : A) → slice_get xs i ≡ Some x → q x ≡ true → list_any q xs ≡ true
any_at q [] i x e h = cc
any_at q (y ∷ xs) zero x e h = let same : x ≡ y = cc in let first : q y ≡ true = ap q (sym same) ∙ h in rw first
any_at q (y ∷ xs) (suc i) x e h = let more : list_any q xs ≡ true = any_at q xs i x e h in rw more (or-true (q y))

get-take : {A : Type 0} (xs : List A) (i n : ℕ) → i < n → slice_get (take n xs) i ≡ slice_get xs i
get-take xs i zero h = absurd (omega arith)
get-take [] i (suc n) h = refl
get-take (x ∷ xs) zero (suc n) h = refl
get-take (x ∷ xs) (suc i) (suc n) h = get-take xs i n (omega arith)

-- where no element that passes stands behind another one that passes, only one does
module _ {A : Type 0} (q : A → Bool) (xs : List A) (alone : Each xs (λ i x. q x ≡ true → list_any q (take i xs) ≡ false)) where
  not_before : (i j : ℕ) (x y : A) → slice_get xs i ≡ Some x → slice_get xs j ≡ Some y → q x ≡ true → q y ≡ true → i < j → ⊥
  not_before i j x y at_i at_j qx qy lower = false≢true (sym (alone j y at_j qy) ∙ any_at q (take j xs) i x (get-take xs i j lower ∙ at_i) qx)

  pub only_one : (i j : ℕ) (x y : A) → slice_get xs i ≡ Some x → slice_get xs j ≡ Some y → q x ≡ true → q y ≡ true → i ≡ j
  only_one i j x y at_i at_j qx qy =
      elim (cases_lt i j) [
        | inl lower ↦ absurd (not_before i j x y at_i at_j qx qy lower)
        | inr not_lower ↦ elim (cases_lt j i) [
          | inl above ↦ absurd (not_before j i y x at_j at_i qy qx above)
          | inr not_above ↦ omega arith
        ]
      ]
