-- Passes as they are known when they end: each with its actor, its own entries, the objects that it ever took, and its refused takes.
use Rattle.std.specs.Prelude.{◌≡◌, ℕ, ◌==◌, ◌&&◌, ◌||◌, Bool, false, List, [], ◌∷◌, map}
use Rattle.dc_stage.specs.Numbers.{has}
use Rattle.dc_stage.specs.History.{Log, own}
use Rattle.dc_stage.specs.declared.view.Past.{Past}

-- their actors
abbrev pub actors_of : {En : Type 0} → List (Past En) → List ℕ
actors_of xs = map (λ x. x.actor) xs

-- of each, the log has just the entries that are its own
abbrev pub EachOwn : {En : Type 0} → List (Past En) → Log En → Type 0
EachOwn [] log = Unit {0}
EachOwn (x ∷ xs) log = (own x.actor log ≡ x.entries) × EachOwn xs log

-- one of them is of actor a, and ever took object i
abbrev pub took_by : {En : Type 0} → ℕ → ℕ → List (Past En) → Bool
took_by i a [] = false
took_by i a (x ∷ xs) = ((a == x.actor) && has i x.took) || took_by i a xs
