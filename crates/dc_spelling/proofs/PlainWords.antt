-- Words of shown bytes alone: they have no space and no newline.
use Rattle.std.proofs.Common.{◌≡◌, ℕ, ◌==◌, ◌<◌, Bool, true, false, not, List, [], ◌∷◌, ◌++◌, length, refl, arith}
use Rattle.std.specs.List.{list_all}
use Rattle.std.specs.Char.{is_ascii_graphic}
use Rattle.std.proofs.lemmas.Bool.{and_parts, and_from}
use Rattle.dc_base.specs.TextWords.{is_space, newline}
use Rattle.dc_spelling.proofs.WordsLemmas.{has_no_space, IsWord, AreWords}

-- each byte is shown
abbrev pub are_shown : List ℕ → Bool
are_shown bytes = list_all is_ascii_graphic bytes

-- the word has a byte, and each is shown
abbrev pub is_plain : List ℕ → Bool
is_plain [] = false
is_plain (b ∷ bytes) = are_shown (b ∷ bytes)

-- the bytes have no newline
abbrev pub has_no_newline : List ℕ → Bool
has_no_newline bytes = list_all (λ b. not (b == newline)) bytes

no_space_byte : (b : ℕ) → is_ascii_graphic b ≡ true → not (is_space b) ≡ true
no_space_byte b shown = grind (arith, shown)

no_newline_byte : (b : ℕ) → is_ascii_graphic b ≡ true → not (b == newline) ≡ true
no_newline_byte b shown = grind (arith, shown)

shown_no_space : (bytes : List ℕ) → are_shown bytes ≡ true → has_no_space bytes ≡ true
shown_no_space [] shown = refl
shown_no_space (b ∷ bytes) shown =
    let parts = and_parts (is_ascii_graphic b) (are_shown bytes) shown in
    and_from _ _ (no_space_byte b parts.0) (shown_no_space bytes parts.1)

shown_no_newline : (bytes : List ℕ) → are_shown bytes ≡ true → has_no_newline bytes ≡ true
shown_no_newline [] shown = refl
shown_no_newline (b ∷ bytes) shown =
    let parts = and_parts (is_ascii_graphic b) (are_shown bytes) shown in
    and_from _ _ (no_newline_byte b parts.0) (shown_no_newline bytes parts.1)

pub plain_shown : (word : List ℕ) → is_plain word ≡ true → are_shown word ≡ true
plain_shown [] plain = refl
plain_shown (b ∷ bytes) plain = plain

pub plain_no_newline : (word : List ℕ) → is_plain word ≡ true → has_no_newline word ≡ true
plain_no_newline word plain = shown_no_newline word (plain_shown word plain)

plain_some : (word : List ℕ) → is_plain word ≡ true → 0 < length word
plain_some [] plain = absurd (cc plain)
plain_some (b ∷ bytes) plain = omega arith

-- a plain word is a word
pub plain_is_word : (word : List ℕ) → is_plain word ≡ true → IsWord word
plain_is_word word plain = record { some = plain_some word plain; solid = shown_no_space word (plain_shown word plain) }

-- each of a list is a plain word
abbrev pub ArePlain : List (List ℕ) → Type 0
ArePlain [] = Unit {0}
ArePlain (word ∷ words) = (is_plain word ≡ true) × ArePlain words

pub plain_are_words : (words : List (List ℕ)) → ArePlain words → AreWords words
plain_are_words [] plain = tt
plain_are_words (word ∷ words) plain = (plain_is_word word plain.0, plain_are_words words plain.1)

pub ArePlain-append : (words more : List (List ℕ)) → ArePlain words → ArePlain more → ArePlain (words ++ more)
ArePlain-append [] more plain further = further
ArePlain-append (word ∷ words) more plain further = (plain.0, ArePlain-append words more plain.1 further)
