-- A journal that is read line by line.
use Rattle.std.specs.Prelude.{◌≡◌, ℕ, ◌+◌, List, [], ◌∷◌, ◌++◌, length, Result, Ok, Err, Option, Some, None}
use Rattle.std.specs.Borrow.{Bor}
use Rattle.dc_base.specs.declared.entries.Entry.{Entry}
use Rattle.dc_base.specs.declared.faults.JournalFault.{JournalFault}
use Rattle.dc_base.specs.declared.faults.JournalFault.TheVariants.{TooLong, Bad, Memory}
use Rattle.dc_base.specs.TextWords.{lines_of}
use Rattle.dc_base.specs.JournalText.{said_from, entry_of}
use Rattle.dc_text.specs.Rest.{lines_left, joined}

-- the line spells an entry with the next ticket, which is added, or its number is the fault
abbrev pub AddsEntry : Result (Unit {0}) JournalFault → (old new : List Entry) → List ℕ → Type 0
AddsEntry (Ok u) old new line = (e : Entry) × (entry_of (length old) line ≡ Some e) × (new ≡ old ++ e ∷ [])
AddsEntry (Err (Bad n)) old new line = (entry_of (length old) line ≡ None) × (n ≡ length old + 1)
AddsEntry (Err Memory) old new line = Unit {0}
AddsEntry (Err TooLong) old new line = ⊥

-- what a journal says, by the entries read so far and the lines that are left
abbrev pub read_with : List Entry → List (List ℕ) → Result (List Entry) ℕ
read_with entries lines = joined entries (said_from entry_of (length entries) lines)

-- with a line read the journal says the same, or the fault is the line's
abbrev pub ReadsLine : Result (Option (Bor (List ℕ))) JournalFault → (old new : List Entry) → List ℕ → Type 0
ReadsLine (Ok rest) old new text = read_with old (lines_of text) ≡ read_with new (lines_left rest)
ReadsLine (Err (Bad line)) old new text = read_with old (lines_of text) ≡ Err line
ReadsLine (Err Memory) old new text = Unit {0}
ReadsLine (Err TooLong) old new text = ⊥
