-- The line of an entry: its words, no newline in it, and a digit at its head.
use Rattle.std.proofs.Common.{◌≡◌, ℕ, ◌==◌, Bool, true, false, not, List, [], ◌∷◌, ◌++◌, refl, ap, sym, ◌∙◌, arith, decimal, codes, bytes_eq}
use Rattle.std.specs.List.{list_all, All}
use Rattle.std.specs.Char.{is_ascii_digit}
use Rattle.std.proofs.lemmas.Bool.{and_parts, and_from, false_from_ne_true, both_ways}
use Rattle.std.proofs.lemmas.List.Folds.{list_all-append}
use Rattle.std.proofs.lemmas.List.Elements.{All-nil, All-cons}
use Rattle.std.proofs.lemmas.List.Splits.{slice_split_at}
use Rattle.std.proofs.lemmas.Slice.Eq.{bytes_eq-Decides}
use mathlib.Core.List.{append_assoc}
use Rattle.dc_base.specs.declared.entries.Entry.{Entry}
use Rattle.dc_base.specs.TextWords.{newline, lines_of, words_of, is_word, add_word, add_words, ended}
use Rattle.dc_base.specs.EntryText.{actor_words, what_words, entry_text}
use Rattle.dc_spelling.proofs.WordsLemmas.{words_of-add_words, words_of-word}
use Rattle.dc_spelling.proofs.PlainWords.{has_no_newline, plain_no_newline, plain_is_word, plain_are_words, ArePlain}
use Rattle.dc_spelling.proofs.Numerals.{is_numeral, decimal_is_numeral, plain_number}
use Rattle.dc_spelling.proofs.EntryWords.{plain_actor, plain_what}

-- one more word
no_newline_word : (line word : List ℕ) → has_no_newline line ≡ true → has_no_newline word ≡ true → has_no_newline (add_word line word) ≡ true
no_newline_word [] word before more = more
no_newline_word (b ∷ line) word before more = list_all-append (λ c. not (c == newline)) (b ∷ line) (32 ∷ word) ∙ and_from _ _ before more

no_newline_words : (line : List ℕ) (words : List (List ℕ)) → has_no_newline line ≡ true → ArePlain words → has_no_newline (add_words line words) ≡ true
no_newline_words line [] before plain = before
no_newline_words line (word ∷ words) before plain = no_newline_words (add_word line word) words (no_newline_word line word before (plain_no_newline word plain.0)) plain.1

-- an entry's line has no newline
pub line_is_one : (t : ℕ) (e : Entry) → has_no_newline (entry_text t e) ≡ true
unfolding entry_text
line_is_one t e =
    no_newline_words _ (what_words e.what) (no_newline_words (decimal t) (actor_words e.actor) (plain_no_newline (decimal t) (plain_number t)) (plain_actor e.actor)) (plain_what e.what)

not_newline : (bytes : List ℕ) → has_no_newline bytes ≡ true → All (λ b. (b == newline) ≡ false) bytes
not_newline [] free = All-nil (λ b. (b == newline) ≡ false)
not_newline (b ∷ bytes) free =
    let parts = and_parts (not (b == newline)) (has_no_newline bytes) free in
    let here : (b == newline) ≡ false = grind (arith, parts.0) in
    All-cons (λ c. (c == newline) ≡ false) b bytes here (not_newline bytes parts.1)

-- a line is the first of its text
pub first_line : (line rest : List ℕ) → has_no_newline line ≡ true → lines_of (ended line ++ rest) ≡ line ∷ lines_of rest
first_line line rest free =
    ap (λ text. lines_of text) (append_assoc line (newline ∷ []) rest)
    ∙ slice_split_at (λ b. b == newline) line newline rest (not_newline line free) refl

-- the words of an entry's line
pub entry_words : (t : ℕ) (e : Entry) → words_of (entry_text t e) ≡ decimal t ∷ (actor_words e.actor ++ what_words e.what)
unfolding entry_text
entry_words t e =
    words_of-add_words _ (what_words e.what) (plain_are_words _ (plain_what e.what))
    ∙ ap (λ ws. ws ++ what_words e.what) (words_of-add_words _ (actor_words e.actor) (plain_are_words _ (plain_actor e.actor)))
    ∙ ap (λ ws. (ws ++ actor_words e.actor) ++ what_words e.what) (words_of-word _ (plain_is_word _ (plain_number t)))

-- a digit stands at the head
abbrev pub has_digit_first : List ℕ → Bool
has_digit_first [] = false
has_digit_first (c ∷ cs) = is_ascii_digit c

pub numeral_first : (word : List ℕ) → is_numeral word ≡ true → has_digit_first word ≡ true
numeral_first [] numeral = numeral
numeral_first (c ∷ cs) numeral = (and_parts (is_ascii_digit c) (list_all is_ascii_digit cs) numeral).0

-- more words leave the head
head_stays : (line : List ℕ) (words : List (List ℕ)) → has_digit_first line ≡ true → has_digit_first (add_words line words) ≡ true
head_stays line [] first = first
head_stays [] (word ∷ words) first = absurd (cc first)
head_stays (c ∷ line) (word ∷ words) first = head_stays (c ∷ (line ++ 32 ∷ word)) words first

line_first : (t : ℕ) (e : Entry) → has_digit_first (entry_text t e) ≡ true
unfolding entry_text
line_first t e = head_stays _ (what_words e.what) (head_stays (decimal t) (actor_words e.actor) (numeral_first (decimal t) (decimal_is_numeral t)))

-- a word that begins otherwise is another
pub another_word : (spelling word : List ℕ) → has_digit_first spelling ≡ false → has_digit_first word ≡ true → bytes_eq spelling word ≡ false
another_word spelling word none first =
    false_from_ne_true _ (λ same. both_ways (has_digit_first word) (ap has_digit_first (sym ((bytes_eq-Decides spelling word).0 same)) ∙ none) first)

-- an entry's line is not the head of a report
pub no_report : (t : ℕ) (e : Entry) → is_word "report" (entry_text t e) ≡ false
no_report t e = another_word (codes "report") (entry_text t e) refl (line_first t e)
