-- What is read is spelled.
use Rattle.std.proofs.Common.{◌≡◌, ℕ, ◌+◌, Bool, true, false, ◌&&◌, List, [], ◌∷◌, ◌++◌, Option, Some, None, Result, Ok, Err, inl, inr, refl, ap, sym, subst, ◌∙◌, codes, option_and_then, bytes_eq}
use Rattle.std.specs.Prelude.{if◌then◌else◌}
use Rattle.std.specs.List.{list_all, join_with_byte}
use Rattle.std.proofs.lemmas.Bool.{and_parts, and_from}
use Rattle.std.proofs.lemmas.Option.{cond_some}
use Rattle.std.proofs.lemmas.List.Splits.{join_with_byte-slice_split}
use Rattle.std.proofs.lemmas.Slice.Eq.{bytes_eq-Decides}
use mathlib.Core.List.{append_assoc}
use Rattle.dc_base.specs.declared.entries.Entry.{Entry}
use Rattle.dc_base.specs.Results.{◌>>=◌, or_fault}
use Rattle.dc_base.specs.TextWords.{newline, lines_of, first_words, is_word, ended}
use Rattle.dc_base.specs.EntryText.{entry_text, journal_from}
use Rattle.dc_base.specs.EntryRanges.{has_line, is_in_range}
use Rattle.dc_base.specs.Journals.{EndsJournal}
use Rattle.dc_base.specs.LooseEntries.{candidate}
use Rattle.dc_base.specs.JournalText.{if_spelled, entry_of, said_from, journal_of}
use Rattle.dc_spelling.proofs.ReadRanges.{IfThere, candidate_low}

-- the entry has a line, this is it, and its numbers are in range
pub record Spells (t : ℕ) (line : List ℕ) (e : Entry) : Type 0 where
  pub lined : has_line e ≡ true
  pub same : line ≡ entry_text t e
  pub low : is_in_range e ≡ true

-- an entry that a line says is spelled by it
spelled : (t : ℕ) (line : List ℕ) (o : Option Entry) (e : Entry) → IfThere is_in_range o → option_and_then (if_spelled t line) o ≡ Some e → Spells t line e
spelled t line None e low is = absurd (cc is)
spelled t line (Some d) e low is =
    let given = cond_some (has_line d && bytes_eq (entry_text t d) line) d e is in
    let tests = and_parts (has_line d) (bytes_eq (entry_text t d) line) given.0 in
    subst (Spells t line) given.1 (record { lined = tests.0; same = sym ((bytes_eq-Decides (entry_text t d) line).0 tests.1); low = low.each d refl })

said_is_spelled : (t : ℕ) (line : List ℕ) (e : Entry) → entry_of t line ≡ Some e → Spells t line e
unfolding entry_of
said_is_spelled t line e is = spelled t line (candidate (first_words line)) e (candidate_low (first_words line)) is

-- the text is these entries' lines from a ticket on, and nothing or a report behind them; the entries are in range
pub record Told (t : ℕ) (text : List ℕ) (es : List Entry) : Type 0 where
  pub lined : list_all has_line es ≡ true
  pub low : list_all is_in_range es ≡ true
  pub rest : List ℕ
  pub same : text ≡ journal_from t es ++ rest
  pub ends : EndsJournal rest

nothing_told : (t : ℕ) (es : List Entry) → ◌≡◌ {A = Result (List Entry) ℕ} (Ok []) (Ok es) → Told t [] es
nothing_told t es is =
    let none : [] ≡ es = cc is in
    subst (Told t []) none (record { lined = refl; low = refl; rest = []; same = refl; ends = inl refl })

report_told : (t : ℕ) (line more : List ℕ) (es : List Entry) → is_word "report" line ≡ true → ◌≡◌ {A = Result (List Entry) ℕ} (Ok []) (Ok es) → Told t (line ++ newline ∷ more) es
report_told t line more es report is =
    let none : [] ≡ es = cc is in
    let head : codes "report" ≡ line = (bytes_eq-Decides (codes "report") line).0 report in
    let text : line ++ newline ∷ more ≡ ended (codes "report") ++ more = ap (λ l. l ++ newline ∷ more) (sym head) in
    subst (Told t (line ++ newline ∷ more)) none (record { lined = refl; low = refl; rest = line ++ newline ∷ more; same = refl; ends = inr (more, text) })

-- one more line
line_told : (t : ℕ) (line more : List ℕ) (e : Entry) (es : List Entry) → Spells t line e → Told (t + 1) more es → Told t (line ++ newline ∷ more) (e ∷ es)
line_told t line more e es here further = record {
  lined = and_from _ _ here.lined further.lined;
  low = and_from _ _ here.low further.low;
  rest = further.rest;
  same =
      ap (λ l. l ++ newline ∷ more) here.same
      ∙ ap (λ m. entry_text t e ++ newline ∷ m) further.same
      ∙ sym (append_assoc (entry_text t e) (newline ∷ []) (journal_from (t + 1) es ++ further.rest))
      ∙ sym (append_assoc (ended (entry_text t e)) (journal_from (t + 1) es) further.rest);
  ends = further.ends;
}

-- the entries behind the first line, put behind its entry
behind_told : (t : ℕ) (line more : List ℕ) (e : Entry) (es : List Entry) (further : Result (List Entry) ℕ) → Spells t line e → ((xs : List Entry) → further ≡ Ok xs → Told (t + 1) more xs) →
    further >>= (λ xs. Ok (e ∷ xs)) ≡ Ok es → Told t (line ++ newline ∷ more) es
behind_told t line more e es (Err n) here told is = absurd (cc is)
behind_told t line more e es (Ok xs) here told is =
    let same : e ∷ xs ≡ es = cc is in
    subst (Told t (line ++ newline ∷ more)) same (line_told t line more e xs here (told xs refl))

entry_told : (t : ℕ) (line more : List ℕ) (es : List Entry) (further : Result (List Entry) ℕ) (o : Option Entry) → entry_of t line ≡ o → ((xs : List Entry) → further ≡ Ok xs → Told (t + 1) more xs) →
    or_fault (t + 1) o >>= (λ e. further >>= (λ xs. Ok (e ∷ xs))) ≡ Ok es → Told t (line ++ newline ∷ more) es
entry_told t line more es further None read told is = absurd (cc is)
entry_told t line more es further (Some e) read told is = behind_told t line more e es further (said_is_spelled t line e read) told is

first_told : (t : ℕ) (line more : List ℕ) (es : List Entry) (further : Result (List Entry) ℕ) (r : Bool) → is_word "report" line ≡ r → ((xs : List Entry) → further ≡ Ok xs → Told (t + 1) more xs) →
    (if r then Ok [] else or_fault (t + 1) (entry_of t line) >>= (λ e. further >>= (λ xs. Ok (e ∷ xs)))) ≡ Ok es → Told t (line ++ newline ∷ more) es
first_told t line more es further true report told is = report_told t line more es report is
first_told t line more es further false plain told is = entry_told t line more es further (entry_of t line) refl told is

lines_told : (t : ℕ) (lines : List (List ℕ)) (es : List Entry) → said_from entry_of t lines ≡ Ok es → Told t (join_with_byte newline lines) es
lines_told t [] es is = nothing_told t es is
lines_told t ([] ∷ []) es is = nothing_told t es is
lines_told t ((b ∷ line) ∷ []) es is = absurd (cc is)
lines_told t (line ∷ next ∷ lines) es is =
    first_told t line (join_with_byte newline (next ∷ lines)) es (said_from entry_of (t + 1) (next ∷ lines)) (is_word "report" line) refl (lines_told (t + 1) (next ∷ lines)) is

pub journal_told : (text : List ℕ) (es : List Entry) → journal_of text ≡ Ok es → Told 0 text es
unfolding journal_of
journal_told text es is = subst (λ bytes. Told 0 bytes es) (join_with_byte-slice_split newline text) (lines_told 0 (lines_of text) es is)
