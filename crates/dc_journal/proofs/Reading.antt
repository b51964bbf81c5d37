-- One line of a journal.
use Rattle.std.proofs.Common.{◌≡◌, ℕ, ◌+◌, ◌==◌, ◌<◌, true, false, List, [], ◌∷◌, ◌++◌, length, Option, Some, None, Result, Ok, Err, refl, ap, sym, ◌∙◌, arith}
use Rattle.std.specs.Prelude.{if◌then◌else◌}
use Rattle.std.proofs.lemmas.List.{length-append}
use Rattle.std.proofs.lemmas.List.Splits.{length-slice_split}
use Rattle.dc_base.specs.declared.entries.Entry.{Entry}
use Rattle.dc_base.specs.declared.faults.JournalFault.{JournalFault}
use Rattle.dc_base.specs.declared.faults.JournalFault.TheVariants.{TooLong, Bad, Memory}
use Rattle.dc_base.specs.Results.{◌>>=◌, or_fault}
use Rattle.dc_base.specs.TextWords.{newline, lines_of, is_word}
use Rattle.dc_base.specs.JournalText.{said_from, entry_of}
use Rattle.dc_text.specs.Rest.{joined}
use Rattle.dc_text.proofs.Joining.{joined_more}
use Rattle.dc_journal.specs.Readings.{AddsEntry, read_with, ReadsLine}

-- entries with one before them
abbrev onto : Entry → Result (List Entry) ℕ → Result (List Entry) ℕ
onto e further = further >>= (λ es. Ok (e ∷ es))

-- what a line says that is not the last
said_line : (ticket : ℕ) (line : List ℕ) (lines : List (List ℕ)) → 0 < length lines →
    said_from entry_of ticket (line ∷ lines) ≡ (if is_word "report" line then Ok [] else or_fault (ticket + 1) (entry_of ticket line) >>= (λ e. onto e (said_from entry_of (ticket + 1) lines)))
said_line ticket line [] some = absurd (omega (arith, some))
said_line ticket line (next ∷ lines) some = refl

-- a text has a line
has_lines : (text : List ℕ) → 0 < length (lines_of text)
has_lines text = let e = length-slice_split (λ b. b == newline) text in omega (arith, e)

module _ (old new : List Entry) (text line further : List ℕ) (lines : lines_of text ≡ line ∷ lines_of further) where
  -- what the line says, and those behind it
  said : read_with old (lines_of text) ≡ joined old (if is_word "report" line then Ok [] else or_fault (length old + 1) (entry_of (length old) line) >>= (λ e. onto e (said_from entry_of (length old + 1) (lines_of further))))
  said = ap (read_with old) lines ∙ ap (joined old) (said_line (length old) line (lines_of further) (has_lines further))

  -- the line `report` ends the journal
  pub reads_report : is_word "report" line ≡ true → read_with old (lines_of text) ≡ Ok (old ++ [])
  reads_report e = said ∙ ap (λ t. joined old (if t then Ok [] else or_fault (length old + 1) (entry_of (length old) line) >>= (λ e. onto e (said_from entry_of (length old + 1) (lines_of further))))) e

  goes_on : is_word "report" line ≡ false → (found : Option Entry) → entry_of (length old) line ≡ found → read_with old (lines_of text) ≡ joined old (or_fault (length old + 1) found >>= (λ e. onto e (said_from entry_of (length old + 1) (lines_of further))))
  goes_on e found is =
      said ∙ ap (λ t. joined old (if t then Ok [] else or_fault (length old + 1) (entry_of (length old) line) >>= (λ e. onto e (said_from entry_of (length old + 1) (lines_of further))))) e
      ∙ ap (λ r. joined old (or_fault (length old + 1) r >>= (λ e. onto e (said_from entry_of (length old + 1) (lines_of further))))) is

  -- an entry is read
  pub reads_entry : is_word "report" line ≡ false → AddsEntry (Ok tt) old new line → read_with old (lines_of text) ≡ read_with new (lines_of further)
  reads_entry e added =
      let count : length old + 1 ≡ length (old ++ added.0 ∷ []) = sym (length-append old (added.0 ∷ [])) in
      goes_on e (Some added.0) added.1 ∙ joined_more old added.0 (said_from entry_of (length old + 1) (lines_of further))
      ∙ ap (λ n. joined (old ++ added.0 ∷ []) (said_from entry_of n (lines_of further))) count
      ∙ ap (λ es. read_with es (lines_of further)) (sym added.2)

  -- the line is the first that is no entry's
  pub reads_fault : is_word "report" line ≡ false → (fault : JournalFault) → AddsEntry (Err fault) old new line → ReadsLine (Err fault) old new text
  reads_fault e (Bad n) none = goes_on e None none.0 ∙ ap Err (sym none.1)
  reads_fault e Memory none = tt
  reads_fault e TooLong none = none
