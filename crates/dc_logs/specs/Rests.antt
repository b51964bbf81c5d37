-- Rests: states in which nobody can act, that stand before the entries that need one.
use Rattle.std.specs.Prelude.{ℕ, ◌≤◌, Bool, cond, List, [], ◌∷◌, length, take}
use Rattle.dc_stage.specs.History.{Log}
use Rattle.dc_logs.specs.Marks.{marked}

abbrev pub AllOf : {A : Type 0} → (A → Type 0) → List A → Type 0
AllOf P [] = Unit {0}
AllOf P (x ∷ xs) = P x × AllOf P xs

-- the first t entries were seen, and after them there is a rest
abbrev pub QuietBy : {En : Type 0} → (Log En → Type 0) → ℕ → Log En → Type 0
QuietBy AtRest t seen = (t ≤ length seen) × AtRest (take t seen)

-- the places of the entries that need a rest
abbrev pub places : {En : Type 0} → (En → Bool) → List (ℕ × En) → List ℕ
places needs_rest [] = []
places needs_rest (m ∷ ms) = cond (needs_rest m.1) (m.0 ∷ places needs_rest ms) (places needs_rest ms)

-- in what was seen there is a rest before each entry of the actor that needs one
abbrev pub AreRests : {En : Type 0} → (En → Bool) → (Log En → Type 0) → ℕ → Log En → Log En → Type 0
AreRests needs_rest AtRest a history seen = AllOf (λ t. QuietBy AtRest t seen) (places needs_rest (marked a 0 history))
