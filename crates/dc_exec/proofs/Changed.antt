-- A memory after one more change.
use Rattle.std.proofs.Common.{◌≡◌, ◌≢◌, ℕ, ◌+◌, ◌-◌, ◌<◌, ◌≤◌, List, [], ◌∷◌, ◌++◌, length, take, get_or, refl, ap, sym, ◌∙◌, arith, get_or-set_other, get_or-set_same, length-set}
use Rattle.std.specs.Prelude.{slice_index, slice_set}
use Rattle.std.proofs.lemmas.List.{take_more}
use Rattle.dc_exec.specs.Changes.{Change, with_changes}

pub with_changes-push : (memory : List ℕ) (cs : List Change) (c : Change) → with_changes memory (cs ++ c ∷ []) ≡ slice_set (with_changes memory cs) c.0 c.1
with_changes-push memory [] c = refl
with_changes-push memory (d ∷ cs) c = with_changes-push (slice_set memory d.0 d.1) cs c

pub length-with_changes : (memory : List ℕ) (cs : List Change) → length (with_changes memory cs) ≡ length memory
length-with_changes memory [] = refl
length-with_changes memory (c ∷ cs) = length-with_changes (slice_set memory c.0 c.1) cs ∙ length-set memory c.0 c.1

-- one more change, at its place in the list
pub with_changes_more : (memory : List ℕ) (cs : List Change) (i : ℕ) (d : Change) → i < length cs → with_changes memory (take (i + 1) cs) ≡ slice_set (with_changes memory (take i cs)) (get_or cs i d).0 (get_or cs i d).1
with_changes_more memory cs i d within = ap (λ ds. with_changes memory ds) (take_more cs i d within) ∙ with_changes-push memory (take i cs) (get_or cs i d)

-- the change before place i counts at its address, and at no other
module _ (memory : List ℕ) (cs : List Change) (i address value : ℕ) (some : 0 < i) (within : i ≤ length cs) (told : slice_index (with_changes memory (take i cs)) address ≡ value) where
  last : Change
  last = get_or cs (i - 1) (0, 0)

  before : List ℕ
  before = with_changes memory (take (i - 1) cs)

  is_last : with_changes memory (take i cs) ≡ slice_set before last.0 last.1
  unfolding last before
  is_last = let e : i ≡ (i - 1) + 1 = omega (arith, some) in let room : i - 1 < length cs = omega (arith, some, within) in
      ap (λ n. with_changes memory (take n cs)) e ∙ with_changes_more memory cs (i - 1) (0, 0) room

  pub newest_found : address < length memory → (get_or cs (i - 1) (0, 0)).0 ≡ address → (get_or cs (i - 1) (0, 0)).1 ≡ value
  unfolding last before
  newest_found there same =
      let room : address < length before = let e = length-with_changes memory (take (i - 1) cs) in omega (arith, e, there) in
      sym (get_or-set_same before address last.1 0 room) ∙ sym (ap (λ a. slice_index (slice_set before a last.1) address) same) ∙ sym (ap (λ m. slice_index m address) is_last) ∙ told

  pub older_counts : (get_or cs (i - 1) (0, 0)).0 ≢ address → slice_index (with_changes memory (take (i - 1) cs)) address ≡ value
  unfolding last before
  older_counts other = sym (get_or-set_other before last.0 address last.1 0 (λ e. other (sym e))) ∙ sym (ap (λ m. slice_index m address) is_last) ∙ told
