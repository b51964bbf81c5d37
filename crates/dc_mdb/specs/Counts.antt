-- How many links go to each slot.
use Rattle.std.specs.Prelude.{◌≡◌, ℕ, ◌+◌, List, [], ◌∷◌, Bool, false, ◌==◌, slice_index_or}
use Rattle.dc_base.specs.Words.{count_of}
use Rattle.dc_mdb.specs.declared.links.Link.{Link}
use Rattle.dc_mdb.specs.declared.links.Link.TheVariants.{Absent, Root, Child}

-- whether a slot with this link is a child of the slot
abbrev pub is_child_of : ℕ → Link → Bool
is_child_of s Absent = false
is_child_of s Root = false
is_child_of s (Child p) = p == s

-- how many children a slot has
abbrev pub child_count : ℕ → List Link → ℕ
child_count s [] = 0
child_count s (l ∷ ls) = count_of (is_child_of s l) + child_count s ls

-- the numbers count the children of each slot, and past their end there are none
abbrev pub IsCounted : List Link → List ℕ → Type 0
IsCounted links children = (s : ℕ) → slice_index_or children s 0 ≡ child_count s links
