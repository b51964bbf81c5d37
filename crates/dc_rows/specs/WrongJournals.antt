-- Journals that are changed by a line.
use Rattle.std.specs.Prelude.{ℕ, ◌+◌, List, ◌∷◌, ◌++◌, take, drop, slice_set}
use Rattle.dc_base.specs.declared.entries.Entry.{Entry}

-- another entry at this ticket
abbrev pub with_line : ℕ → Entry → List Entry → List Entry
with_line n e es = slice_set es n e

abbrev pub without_line : ℕ → List Entry → List Entry
without_line n es = take n es ++ drop (n + 1) es

-- one entry more, with this ticket
abbrev pub line_added : ℕ → Entry → List Entry → List Entry
line_added n e es = take n es ++ e ∷ drop n es

abbrev first_two_swapped : List Entry → List Entry
first_two_swapped (d ∷ e ∷ es) = e ∷ d ∷ es
first_two_swapped es = es

-- the entry at this ticket and the next one, the other way round
abbrev pub lines_swapped : ℕ → List Entry → List Entry
lines_swapped n es = take n es ++ first_two_swapped (drop n es)
