-- What is spelled is read.
use Rattle.std.proofs.Common.{◌≡◌, ℕ, ◌+◌, ◌==◌, ◌<◌, true, false, List, [], ◌∷◌, ◌++◌, length, Option, Some, Result, Ok, inl, inr, refl, ap, ◌∙◌, arith, codes}
use Rattle.std.specs.Prelude.{if◌then◌else◌}
use Rattle.std.specs.List.{list_all}
use Rattle.std.proofs.lemmas.Bool.{and_parts}
use Rattle.std.proofs.lemmas.List.Splits.{length-slice_split}
use mathlib.Core.List.{append_assoc}
use Rattle.dc_base.specs.declared.entries.Entry.{Entry}
use Rattle.dc_base.specs.Results.{◌>>=◌, or_fault}
use Rattle.dc_base.specs.TextWords.{newline, lines_of, is_word, ended}
use Rattle.dc_base.specs.EntryText.{entry_text, journal_from, journal_text}
use Rattle.dc_base.specs.EntryRanges.{has_line, is_in_range}
use Rattle.dc_base.specs.Journals.{EndsJournal}
use Rattle.dc_base.specs.JournalText.{entry_of, said_from, journal_of}
use Rattle.dc_spelling.proofs.EntryLines.{first_line, line_is_one, no_report}
use Rattle.dc_spelling.proofs.Candidates.{entry_read}

-- a text has a line
some_line : (text : List ℕ) → 0 < length (lines_of text)
some_line text = let many = length-slice_split (λ b. b == newline) text in omega (arith, many)

-- a report ends what is read
report_stops : (t : ℕ) (lines : List (List ℕ)) → 0 < length lines → said_from entry_of t (codes "report" ∷ lines) ≡ Ok []
report_stops t [] some = absurd (omega (arith, some))
report_stops t (next ∷ lines) some = refl

ends_read : (t : ℕ) (rest : List ℕ) → EndsJournal rest → said_from entry_of t (lines_of rest) ≡ Ok []
ends_read t rest (inl none) = ap (λ text. said_from entry_of t (lines_of text)) none
ends_read t rest (inr more) =
    ap (λ text. said_from entry_of t (lines_of text)) more.1
    ∙ ap (said_from entry_of t) (first_line (codes "report") more.0 refl)
    ∙ report_stops t (lines_of more.0) (some_line more.0)

-- one more line that says an entry
line_more : (t : ℕ) (line : List ℕ) (e : Entry) (lines : List (List ℕ)) (es : List Entry) → is_word "report" line ≡ false → entry_of t line ≡ Some e → 0 < length lines →
    said_from entry_of (t + 1) lines ≡ Ok es → said_from entry_of t (line ∷ lines) ≡ Ok (e ∷ es)
line_more t line e [] es plain read some more = absurd (omega (arith, some))
line_more t line e (next ∷ lines) es plain read some more =
    let further : Result (List Entry) ℕ = said_from entry_of (t + 1) (next ∷ lines) in
    let all : Option Entry → Result (List Entry) ℕ = λ o. or_fault (t + 1) o >>= (λ x. further >>= (λ xs. Ok (x ∷ xs))) in
    ap (λ b. if b then Ok [] else all (entry_of t line)) plain
    ∙ ap all read
    ∙ ap (λ r. r >>= (λ xs. Ok (e ∷ xs))) more

-- from a ticket on
spelled_from : (t : ℕ) (es : List Entry) (rest : List ℕ) → list_all has_line es ≡ true → list_all is_in_range es ≡ true → EndsJournal rest →
    said_from entry_of t (lines_of (journal_from t es ++ rest)) ≡ Ok es
spelled_from t [] rest lined low ends = ends_read t rest ends
spelled_from t (e ∷ es) rest lined low ends =
    let lines = and_parts (has_line e) (list_all has_line es) lined in
    let ranges = and_parts (is_in_range e) (list_all is_in_range es) low in
    let behind : List ℕ = journal_from (t + 1) es ++ rest in
    ap (λ text. said_from entry_of t (lines_of text)) (append_assoc (ended (entry_text t e)) (journal_from (t + 1) es) rest)
    ∙ ap (said_from entry_of t) (first_line (entry_text t e) behind (line_is_one t e))
    ∙ line_more t (entry_text t e) e (lines_of behind) es (no_report t e) (entry_read t e lines.0 ranges.0) (some_line behind)
    (spelled_from (t + 1) es rest lines.1 ranges.1 ends)

pub spelled_reads : (es : List Entry) (rest : List ℕ) → list_all has_line es ≡ true → list_all is_in_range es ≡ true → EndsJournal rest → journal_of (journal_text es ++ rest) ≡ Ok es
unfolding journal_of journal_text
spelled_reads es rest lined low ends = spelled_from 0 es rest lined low ends
