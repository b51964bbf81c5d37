-- Places of words in a line.
use Rattle.std.specs.Prelude.{◌≡◌, ℕ, ◌+◌, ◌<◌, ◌≤◌, nat_lt, List, [], ◌∷◌, ◌++◌, length, map, take, drop, slice_range, if◌then◌else◌}
use Rattle.dc_base.specs.TextWords.{is_space}

-- the place from one byte to another, where it has a byte
abbrev pub place_if_any : ℕ → ℕ → List (ℕ × ℕ)
place_if_any from to = if nat_lt from to then (from, to) ∷ [] else []

-- the places of the words of what is left of a line at a byte, where a word may have begun before it
abbrev pub places_after : ℕ → ℕ → List ℕ → List (ℕ × ℕ)
places_after from at [] = place_if_any from at
places_after from at (b ∷ line) =
    let further = places_after (at + 1) (at + 1) line in
    if is_space b then place_if_any from at ++ further else places_after from (at + 1) line

-- the places of the words of a line, in order
abbrev pub places_of : List ℕ → List (ℕ × ℕ)
places_of line = places_after 0 0 line

-- the bytes at each place
abbrev pub texts_at : List ℕ → List (ℕ × ℕ) → List (List ℕ)
texts_at line places = map (λ (place : ℕ × ℕ). slice_range line place.0 place.1) places

-- the place has a byte, and ends in the line
abbrev pub IsPlaceIn : List ℕ → ℕ × ℕ → Type 0
IsPlaceIn line place = (place.0 < place.1) × (place.1 ≤ length line)

-- the places found so far, and those of the rest, where a word may have begun, are the line's
pub record IsScanned (line : List ℕ) (found : List (ℕ × ℕ)) (from at : ℕ) : Type 0 where
  pub ordered : from ≤ at
  pub whole : take 16 (found ++ places_after from at (drop at line)) ≡ take 16 (places_of line)
