-- Numbers as words: digits alone, at least one, and read back below a limit.
use Rattle.std.proofs.Common.{◌≡◌, ℕ, zero, suc, ◌+◌, ◌/◌, ◌%◌, ◌^◌, ◌==◌, ◌<◌, Bool, true, false, List, [], ◌∷◌, refl, ap, ◌∙◌, arith, decimal, if◌then◌else◌, nat_lt}
use Rattle.std.specs.List.{list_all}
use Rattle.std.specs.Char.{is_ascii_digit, is_ascii_graphic}
use Rattle.std.specs.Fmt.{digits, digits_onto, digit_glyph}
use Rattle.std.proofs.lemmas.Bool.{and_parts, and_from, lt-ltb, ltb-true}
use Rattle.dc_base.specs.EntryRanges.{are_in_range}
use Rattle.dc_base.specs.LooseWords.{loose_number}
use Rattle.dc_spelling.proofs.Reading.{below-decimal}
use Rattle.dc_spelling.proofs.PlainWords.{are_shown, is_plain}

-- the word has a byte, and each is a digit
abbrev pub is_numeral : List ℕ → Bool
is_numeral [] = false
is_numeral (c ∷ cs) = list_all is_ascii_digit (c ∷ cs)

glyph_is_digit : (n : ℕ) → is_ascii_digit (digit_glyph false (n % 10)) ≡ true
glyph_is_digit n =
    let low : nat_lt (n % 10) 10 ≡ true = lt-ltb (n % 10) 10 (omega arith) in
    let digit : is_ascii_digit (48 + n % 10) ≡ true = grind arith in
    ap (λ t. is_ascii_digit (if t then 48 + n % 10 else 87 + n % 10)) low ∙ digit

-- digits before digits
more_digits : (k n d : ℕ) (acc : List ℕ) → list_all is_ascii_digit (d ∷ acc) ≡ true → is_numeral (digits_onto k 10 false n (d ∷ acc)) ≡ true
more_digits zero n d acc all = all
more_digits (suc k) n d acc all =
    let glyph : ℕ = digit_glyph false (n % 10) in
    let further : list_all is_ascii_digit (glyph ∷ d ∷ acc) ≡ true = and_from _ _ (glyph_is_digit n) all in
    elim (n / 10 == 0) as (λ t. is_numeral (if t then glyph ∷ d ∷ acc else digits_onto k 10 false (n / 10) (glyph ∷ d ∷ acc)) ≡ true) [
      | true ↦ further
      | false ↦ more_digits k (n / 10) glyph (d ∷ acc) further
    ]

-- every number is a numeral, also one that is too long
pub decimal_is_numeral : (n : ℕ) → is_numeral (decimal n) ≡ true
unfolding digits
decimal_is_numeral n =
    let glyph : ℕ = digit_glyph false (n % 10) in
    let last : list_all is_ascii_digit (glyph ∷ []) ≡ true = and_from _ _ (glyph_is_digit n) refl in
    elim (n / 10 == 0) as (λ t. is_numeral (if t then glyph ∷ [] else digits_onto 63 10 false (n / 10) (glyph ∷ [])) ≡ true) [
      | true ↦ last
      | false ↦ more_digits 63 (n / 10) glyph [] last
    ]

shown_digit : (c : ℕ) → is_ascii_digit c ≡ true → is_ascii_graphic c ≡ true
shown_digit c digit = grind (arith, digit)

digits_shown : (cs : List ℕ) → list_all is_ascii_digit cs ≡ true → are_shown cs ≡ true
digits_shown [] all = refl
digits_shown (c ∷ cs) all =
    let parts = and_parts (is_ascii_digit c) (list_all is_ascii_digit cs) all in
    and_from _ _ (shown_digit c parts.0) (digits_shown cs parts.1)

numeral_is_plain : (word : List ℕ) → is_numeral word ≡ true → is_plain word ≡ true
numeral_is_plain [] numeral = numeral
numeral_is_plain (c ∷ cs) numeral = digits_shown (c ∷ cs) numeral

-- a number is a plain word
pub plain_number : (n : ℕ) → is_plain (decimal n) ≡ true
plain_number n = numeral_is_plain (decimal n) (decimal_is_numeral n)

-- numbers of a byte, of 32 bits and of 64 bits are read back
pub byte_read : (n : ℕ) → nat_lt n (2 ^ 8) ≡ true → loose_number (2 ^ 8) (decimal n) ≡ n
byte_read n low = let below : n < 2 ^ 8 = ltb-true n (2 ^ 8) low in below-decimal (2 ^ 8) n (omega (arith, below)) below

pub number_read : (n : ℕ) → nat_lt n (2 ^ 32) ≡ true → loose_number (2 ^ 32) (decimal n) ≡ n
number_read n low = let below : n < 2 ^ 32 = ltb-true n (2 ^ 32) low in below-decimal (2 ^ 32) n (omega (arith, below)) below

pub time_read : (n : ℕ) → nat_lt n (2 ^ 64) ≡ true → loose_number (2 ^ 64) (decimal n) ≡ n
time_read n low = let below : n < 2 ^ 64 = ltb-true n (2 ^ 64) low in below-decimal (2 ^ 64) n below below

-- each of these is read back
abbrev pub AreRead : List ℕ → Type 0
AreRead [] = Unit {0}
AreRead (n ∷ ns) = (loose_number (2 ^ 32) (decimal n) ≡ n) × AreRead ns

pub numbers_read : (ns : List ℕ) → are_in_range ns ≡ true → AreRead ns
numbers_read [] low = tt
numbers_read (n ∷ ns) low =
    let parts = and_parts (nat_lt n (2 ^ 32)) (are_in_range ns) low in
    (number_read n parts.0, numbers_read ns parts.1)
