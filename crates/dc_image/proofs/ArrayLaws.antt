-- Arrays, read element by element.
use Rattle.std.proofs.Common.{◌≡◌, ℕ, suc, ◌+◌, ◌<◌, ◌≤◌, List, [], ◌∷◌, ◌++◌, length, drop, get_or, Ok, Err, refl, sym, ap, ◌∙◌, decimal}
use Rattle.std.proofs.lemmas.List.{drop_all}
use Rattle.toml.specs.declared.value.Value.{Value}
use Rattle.toml.specs.Data.{item}
use Rattle.toml.specs.View.{view, items_view}
use Rattle.toml.proofs.Views.{items_view-drop}
use Rattle.dc_base.specs.Results.{◌>>=◌}
use Rattle.dc_base.specs.FaultText.{ImageRefusal}
use Rattle.dc_image.specs.KeyText.{under}
use Rattle.dc_image.specs.ImageKeys.{Rule, item_count, items_read}

pub item_count_view : (vs : List Value) → item_count (items_view vs) ≡ length vs
item_count_view [] = refl
item_count_view (v ∷ vs) = ap suc (item_count_view vs)

-- what is left to read gives the whole
abbrev pub IsReadUpTo : {A : Type 0} → (List A → Rule A) → List ℕ → List Value → List A → ℕ → Type 0
IsReadUpTo rule key vs before i = items_read rule before key (items_view (drop i vs)) ≡ items_read rule [] key (items_view vs)

module _ {A : Type 0} (rule : List A → Rule A) (key : List ℕ) (vs : List Value) (before : List A) (i : ℕ) (v : Value) (h : i < length vs) (there : v ≡ get_or vs i v) (count : length before ≡ i)
    (left : items_read rule before key (items_view (drop i vs)) ≡ items_read rule [] key (items_view vs)) where
  first_left : items_view (drop i vs) ≡ item (view v) (items_view (drop (i + 1) vs))
  first_left = items_view-drop vs i v h ∙ ap (λ w. item (view w) (items_view (drop (i + 1) vs))) (sym there)

  at_count : rule before (under key (decimal (length before))) (view v) ≡ rule before (under key (decimal i)) (view v)
  at_count = ap (λ n. rule before (under key (decimal n)) (view v)) count

  -- one more element is read
  pub read_more : (x : A) → rule before (under key (decimal i)) (view v) ≡ Ok x →
      items_read rule (before ++ x ∷ []) key (items_view (drop (i + 1) vs)) ≡ items_read rule [] key (items_view vs)
  read_more x here = ap (λ r. r >>= (λ y. items_read rule (before ++ y ∷ []) key (items_view (drop (i + 1) vs)))) (sym (at_count ∙ here)) ∙ sym (ap (items_read rule before key) first_left) ∙ left

  -- an element is refused
  pub read_refused : (e : ImageRefusal) → rule before (under key (decimal i)) (view v) ≡ Err e → items_read rule [] key (items_view vs) ≡ Err e
  read_refused e here = sym left ∙ ap (items_read rule before key) first_left ∙ ap (λ r. r >>= (λ y. items_read rule (before ++ y ∷ []) key (items_view (drop (i + 1) vs)))) (at_count ∙ here)

-- all are read
pub read_all : {A : Type 0} (rule : List A → Rule A) (key : List ℕ) (vs : List Value) (before : List A) (i : ℕ) → length vs ≤ i →
    items_read rule before key (items_view (drop i vs)) ≡ items_read rule [] key (items_view vs) → items_read rule [] key (items_view vs) ≡ Ok before
read_all rule key vs before i past left = sym left ∙ ap (λ ws. items_read rule before key (items_view ws)) (drop_all i vs past)
