-- The lines of entries begin with their tickets.
use Rattle.std.proofs.Common.{◌≡◌, ◌∙◌, ℕ, ◌+◌, ◌^◌, ◌<◌, ◌≤◌, true, nat_lt, nat_le, List, [], ◌∷◌, ◌++◌, length, map, take, Some, refl, ap, arith, decimal}
use Rattle.std.specs.List.{range_with_len}
use Rattle.std.proofs.lemmas.Bool.{lt-ltb, le-leb}
use Rattle.std.proofs.lemmas.Fmt.{decimal_is_IsNumeral, length-decimal-le}
use mathlib.Core.List.{append_assoc}
use Rattle.dc_base.specs.declared.entries.Entry.{Entry}
use Rattle.dc_base.specs.TextWords.{lines_of, number_of, ended}
use Rattle.dc_base.specs.EntryText.{entry_text, journal_from, journal_text}
use Rattle.dc_base.specs.LooseWords.{word_at}
use Rattle.dc_base.specs.JournalText.{ticket_of}
use Rattle.dc_spelling.proofs.Reading.{digits_digits}
use Rattle.dc_spelling.proofs.EntryLines.{entry_words, first_line, line_is_one}

-- a number of at most 10 digits is read back
number_read_back : (n : ℕ) → n < 10 ^ 10 → number_of (decimal n) ≡ Some n
unfolding number_of
number_read_back n low =
    let fits : n < 2 ^ 64 = omega (arith, low) in
    let numeral = decimal_is_IsNumeral n fits in
    let some : nat_lt 0 (length (decimal n)) ≡ true = lt-ltb 0 (length (decimal n)) numeral.0.0 in
    let short : nat_le (length (decimal n)) 10 ≡ true = le-leb (length (decimal n)) 10 (length-decimal-le 10 n (omega arith) low fits) in
    rw (some, short, digits_digits (decimal n) numeral.0.1, numeral.1)

ticket_read : (t : ℕ) (e : Entry) → t < 10 ^ 10 → ticket_of (entry_text t e) ≡ Some t
ticket_read t e low = ap (λ ws. number_of (word_at (take 16 ws) 0)) (entry_words t e) ∙ number_read_back t low

-- from a ticket on
tickets_from : (t : ℕ) (es : List Entry) (rest : List ℕ) → t + length es ≤ 10 ^ 10 →
    map ticket_of (take (length es) (lines_of (journal_from t es ++ rest))) ≡ map Some (range_with_len t (length es))
tickets_from t [] rest few = refl
tickets_from t (e ∷ es) rest few =
    let behind : List ℕ = journal_from (t + 1) es ++ rest in
    ap (λ text. map ticket_of (take (length (e ∷ es)) (lines_of text))) (append_assoc (ended (entry_text t e)) (journal_from (t + 1) es) rest)
    ∙ ap (λ lines. map ticket_of (take (length (e ∷ es)) lines)) (first_line (entry_text t e) behind (line_is_one t e))
    ∙ ap (λ n. n ∷ map ticket_of (take (length es) (lines_of behind))) (ticket_read t e (omega (arith, few)))
    ∙ ap (λ ns. Some t ∷ ns) (tickets_from (t + 1) es rest (omega (arith, few)))

pub tickets_in_order : (es : List Entry) (rest : List ℕ) → length es ≤ 10 ^ 10 →
    map ticket_of (take (length es) (lines_of (journal_text es ++ rest))) ≡ map Some (range_with_len 0 (length es))
unfolding journal_text
tickets_in_order es rest few = tickets_from 0 es rest (omega (arith, few))
