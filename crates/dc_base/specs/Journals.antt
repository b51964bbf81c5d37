-- Which texts tell which entries, said without reading anything.
use Rattle.std.specs.Prelude.{◌≡◌, ◌⊎◌, List, [], ◌++◌, ℕ, IsTrue, codes}
use Rattle.std.specs.List.{list_all}
use Rattle.dc_base.specs.declared.entries.Entry.{Entry}
use Rattle.dc_base.specs.TextWords.{ended}
use Rattle.dc_base.specs.EntryText.{journal_text}
use Rattle.dc_base.specs.EntryRanges.{has_line, is_in_range}

-- nothing follows the entries, or a report does
abbrev pub EndsJournal : List ℕ → Type 0
EndsJournal rest = (rest ≡ []) ⊎ ((report : List ℕ) × (rest ≡ ended (codes "report") ++ report))

-- each entry has a line and numbers in range, and the text is these lines, with nothing or a report behind them
pub record IsJournal (text : List ℕ) (es : List Entry) : Type 0 where
  pub lined : IsTrue (list_all has_line es)
  pub in_range : IsTrue (list_all is_in_range es)
  pub rest : List ℕ
  pub spelled : text ≡ journal_text es ++ rest
  pub ends : EndsJournal rest

-- a text tells the entries of one list at most
abbrev pub TellsOne : Type 0
TellsOne = (text : List ℕ) (es others : List Entry) → IsJournal text es → IsJournal text others → es ≡ others
