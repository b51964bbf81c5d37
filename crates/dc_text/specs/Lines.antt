-- Lines made of pieces.
use Rattle.std.specs.Prelude.{ℕ, ◌+◌, min, List, ◌∷◌, decimal}
use Rattle.std.specs.List.{flat_map}

-- the length of a line of this length with a word of that length added, behind a space where the line is not empty
abbrev pub len_with_word : ℕ → ℕ → ℕ
len_with_word line word = line + min line 1 + word

-- each number behind a comma
abbrev pub behind_commas : List ℕ → List ℕ
behind_commas ns = flat_map (λ n. 44 ∷ decimal n) ns
