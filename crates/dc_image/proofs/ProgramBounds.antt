-- A text of code gives at most 1,024 words of 32 bits.
use Rattle.std.proofs.Common.{◌≡◌, ℕ, zero, suc, ◌+◌, ◌-◌, ◌*◌, ◌^◌, ◌%◌, ◌<◌, ◌≤◌, Bool, true, false, List, [], ◌∷◌, length, drop, find, Result, Ok, Err, Option, Some, None, refl, ap, subst, arith, inl, inr, bytes_eq}
use Rattle.std.specs.Prelude.{nat_lt, ◌==◌, slice_get, slice_index, if◌then◌else◌, ⊤}
use Rattle.std.specs.List.{list_all}
use Rattle.std.proofs.lemmas.Bool.{cases_Bool, and_parts}
use Rattle.std.proofs.lemmas.Bool.Decides.{nat_tests}
use Rattle.dc_base.specs.declared.faults.AsmKind.{AsmKind}
use Rattle.dc_base.specs.declared.faults.AsmKind.TheVariants as kind
use Rattle.dc_base.specs.declared.faults.AsmFault.TheVariants.{Bad}
use Rattle.dc_base.specs.Results.{◌>>=◌, fault_as}
use Rattle.dc_base.specs.TextWords.{number_of}
use Rattle.dc_base.specs.Operations.{Operand, register_a, register_b, slot_a, slot_b, immediate, target, grant, made, whole, Operation, operations, weight}
use Rattle.dc_base.specs.ProgramText.{Label, Statement, nothing, label, instruction, statements, is_label_name, labels_from, place_of, lettered, if_passes, number, if_defined, is_grant, is_16_bits, operand, operands_sum, if_known, word_of, defines, fits, words_from, program_of}
use Rattle.dc_base.specs.KeptByBlocks.{AreWords}
use Rattle.dc_image.proofs.Chains.{chained, passed}

-- an operand's number is below it
abbrev bound : Operand → ℕ
bound register_a = 8
bound register_b = 8
bound slot_a = 16
bound slot_b = 16
bound immediate = 2 ^ 16
bound target = 2 ^ 16
bound grant = 2 ^ 8
bound made = 2
bound whole = 2 ^ 32

-- the most that operands add to a word
abbrev room : List Operand → ℕ
room [] = 0
room (o ∷ os) = (bound o - 1) * weight o + room os

-- the operation's words have 32 bits
abbrev is_narrow : Operation → Bool
is_narrow o = nat_lt (o.number * 2 ^ 24 + room o.operands) (2 ^ 32)

all_narrow : list_all is_narrow operations ≡ true
unfolding operations
all_narrow = refl

found_passes : {A : Type 0} (p q : A → Bool) (xs : List A) (x : A) → list_all q xs ≡ true → find p xs ≡ Some x → q x ≡ true
found_passes p q [] x all e = cc
found_passes p q (y ∷ xs) x all e =
    let parts = and_parts (q y) (list_all q xs) all in
    elim (cases_Bool (p y)) [
      | inl here ↦ let same : y ≡ x = cc in subst (λ z. q z ≡ true) same parts.0
      | inr not_here ↦ found_passes p q xs x parts.1 (let e' = rw not_here at e in e')
    ]

-- no label has a place above it
abbrev AreUpTo : ℕ → List Label → Type 0
AreUpTo n [] = ⊤
AreUpTo n (l ∷ ls) = (l.1 ≤ n) × AreUpTo n ls

place_up_to : (n : ℕ) (name : List ℕ) (ls : List Label) (p : ℕ) → AreUpTo n ls → place_of ls name ≡ Some p → p ≤ n
place_up_to n name [] p all e = cc
place_up_to n name (l ∷ ls) p all e =
    elim (cases_Bool (bytes_eq l.0 name)) [
      | inl here ↦ let same : l.1 ≡ p = cc in subst (λ q. q ≤ n) same all.0
      | inr not_here ↦ place_up_to n name ls p all.1 (let e' = rw not_here at e in e')
    ]

lettered_has : (letter limit : ℕ) (word : List ℕ) (n : ℕ) → lettered letter limit word ≡ Ok n → n < limit
lettered_has letter limit word n e = grind (arith, nat_tests)

number_has : (test : ℕ → Bool) (o : Option ℕ) (n : ℕ) → if_passes test o ≡ Ok n → test n ≡ true
number_has test None n e = cc
number_has test (Some m) n e = let p = passed (test m) m n kind.BadNumber e in subst (λ k. test k ≡ true) p.same p.passed

below_number : (limit : ℕ) (o : Option ℕ) (n : ℕ) → if_passes (λ m. nat_lt m limit) o ≡ Ok n → n < limit
below_number limit o n e = let test : nat_lt n limit ≡ true = number_has (λ m. nat_lt m limit) o n e in grind (arith, nat_tests)

grant_number : (o : Option ℕ) (n : ℕ) → if_passes is_grant o ≡ Ok n → n < 256
grant_number o n e =
    let parts = and_parts (nat_lt n 256) (nat_lt (n % 16) 8) (number_has is_grant o n e) in
    let test : nat_lt n 256 ≡ true = parts.0 in
    grind (arith, nat_tests)

-- the labels have places of 16 bits
abbrev AreNear : List Label → Type 0
AreNear labels = (name : List ℕ) (p : ℕ) → place_of labels name ≡ Some p → p < 2 ^ 16

defined_has : (o : Option ℕ) (n : ℕ) → if_defined o ≡ Ok n → o ≡ Some n
defined_has None n e = cc
defined_has (Some m) n e = cc

target_has : (labels : List Label) (near : AreNear labels) (word : List ℕ) (named : Bool) (n : ℕ) →
    (if named then if_defined (place_of labels (drop 1 word)) else number is_16_bits word) ≡ Ok n → n < 2 ^ 16
target_has labels near word true n e = near (drop 1 word) n (defined_has (place_of labels (drop 1 word)) n e)
target_has labels near word false n e = below_number (2 ^ 16) (number_of word) n e

operand_has : (labels : List Label) (near : AreNear labels) (o : Operand) (word : List ℕ) (n : ℕ) → operand labels o word ≡ Ok n → n < bound o
operand_has labels near register_a word n e = lettered_has 114 8 word n e
operand_has labels near register_b word n e = lettered_has 114 8 word n e
operand_has labels near slot_a word n e = lettered_has 115 16 word n e
operand_has labels near slot_b word n e = lettered_has 115 16 word n e
operand_has labels near immediate word n e = below_number (2 ^ 16) (number_of word) n e
operand_has labels near target word n e = target_has labels near word (slice_index word 0 == 64) n e
operand_has labels near grant word n e = grant_number (number_of word) n e
operand_has labels near made word n e = below_number 2 (number_of word) n e
operand_has labels near whole word n e = below_number (2 ^ 32) (number_of word) n e

times_bound : (n b w : ℕ) → n < b → n * w ≤ (b - 1) * w
times_bound n b w h = let lower : n ≤ b - 1 = omega arith in grind arith

sum_has : (labels : List Label) (near : AreNear labels) (os : List Operand) (words : List (List ℕ)) (n : ℕ) → operands_sum labels os words ≡ Ok n → n ≤ room os
sum_has labels near [] [] n e = let same : 0 ≡ n = cc in omega arith
sum_has labels near [] (w ∷ ws) n e = cc
sum_has labels near (o ∷ os) [] n e = cc
sum_has labels near (o ∷ os) (w ∷ ws) n e =
    let first = chained (operand labels o w) _ n e in
    let others = chained (operands_sum labels os ws) _ n first.after in
    let same : first.first * weight o + others.first ≡ n = cc in
    let low : first.first * weight o ≤ (bound o - 1) * weight o = times_bound first.first (bound o) (weight o) (operand_has labels near o w first.first first.was) in
    let more : others.first ≤ room os = sum_has labels near os ws others.first others.was in
    subst (λ m. m ≤ (bound o - 1) * weight o + room os) same (omega (arith, low, more))

known_has : (labels : List Label) (near : AreNear labels) (words : List (List ℕ)) (o : Option Operation) (n : ℕ) → ((x : Operation) → o ≡ Some x → is_narrow x ≡ true) → if_known labels words o ≡ Ok n → n < 2 ^ 32
known_has labels near words None n narrow e = cc
known_has labels near words (Some o) n narrow e =
    let counted = length_right (length words == length o.operands) (operands_sum labels o.operands words >>= (λ m. Ok (o.number * 2 ^ 24 + m))) n e in
    let sum = chained (operands_sum labels o.operands words) _ n counted in
    let same : o.number * 2 ^ 24 + sum.first ≡ n = cc in
    let low : sum.first ≤ room o.operands = sum_has labels near o.operands words sum.first sum.was in
    let test : nat_lt (o.number * 2 ^ 24 + room o.operands) (2 ^ 32) ≡ true = narrow o refl in
    let below : o.number * 2 ^ 24 + room o.operands < 2 ^ 32 = grind (arith, nat_tests) in
    subst (λ m. m < 2 ^ 32) same (omega (arith, low, below))
  where
    length_right : (b : Bool) (r : Result ℕ AsmKind) (m : ℕ) → (if b then r else Err kind.BadOperand) ≡ Ok m → r ≡ Ok m
    length_right true r m h = h
    length_right false r m h = cc

word_has : (labels : List Label) (near : AreNear labels) (name : List ℕ) (words : List (List ℕ)) (n : ℕ) → word_of labels name words ≡ Ok n → n < 2 ^ 32
unfolding word_of
word_has labels near name words n e =
    let is_named = λ (o : Operation). bytes_eq o.name name in
    known_has labels near words (find is_named operations) n (λ x found. found_passes is_named is_narrow operations x all_narrow found) e

unfaulted : {A : Type 0} (line : ℕ) (r : Result A AsmKind) (x : A) → fault_as (Bad line) r ≡ Ok x → r ≡ Ok x
unfaulted line (Ok y) x e = cc
unfaulted line (Err f) x e = cc

-- how many words the lines have
abbrev word_count : List Statement → ℕ
word_count [] = 0
word_count (nothing ∷ more) = word_count more
word_count (label name ∷ more) = word_count more
word_count (instruction name operands ∷ more) = suc (word_count more)

fits_has : (place word n : ℕ) → fits place word ≡ Ok n → (place < 1024) × (word ≡ n)
fits_has place word n e =
    let p = passed (nat_lt place 1024) word n kind.TooLong e in
    let test : nat_lt place 1024 ≡ true = p.passed in
    (grind (arith, nat_tests), p.same)

-- what the words from a line on have
record Counted (lines : List Statement) (place : ℕ) (words : List ℕ) : Type 0 where
  count : length words ≡ word_count lines
  few : length words ≤ 1024 - place

counted : (labels : List Label) (line place : ℕ) (above : List (List ℕ)) (lines : List Statement) (words : List ℕ) → words_from labels line place above lines ≡ Ok words → Counted lines place words
counted labels line place above [] words e = let same : [] ≡ words = cc in subst (Counted [] place) same (record { count = refl; few = omega arith })
counted labels line place above (nothing ∷ more) words e = let c = counted labels (line + 1) place above more words e in record { count = c.count; few = c.few }
counted labels line place above (label name ∷ more) words e =
    let s = chained (fault_as (Bad line) (defines above name)) _ words e in
    let c = counted labels (line + 1) place (name ∷ above) more words s.after in
    record { count = c.count; few = c.few }
counted labels line place above (instruction name operands ∷ more) words e =
    let s = chained (fault_as (Bad line) (word_of labels name operands >>= fits place)) _ words e in
    let fit = chained (word_of labels name operands) _ s.first (unfaulted line (word_of labels name operands >>= fits place) s.first s.was) in
    let low : place < 1024 = (fits_has place fit.first s.first fit.after).0 in
    let others = chained (words_from labels (line + 1) (place + 1) above more) _ words s.after in
    let c = counted labels (line + 1) (place + 1) above more others.first others.was in
    let same : s.first ∷ others.first ≡ words = cc in
    let made : Counted (instruction name operands ∷ more) place (s.first ∷ others.first) = record { count = ap suc c.count; few = omega (arith, low, c.few) } in
    subst (Counted (instruction name operands ∷ more) place) same made

-- the words are of 32 bits
words_have : (labels : List Label) (near : AreNear labels) (line place : ℕ) (above : List (List ℕ)) (lines : List Statement) (words : List ℕ) → words_from labels line place above lines ≡ Ok words → AreWords words
words_have labels near line place above [] words e = let same : [] ≡ words = cc in subst AreWords same (λ i w at. absurd (nothing_at i w at))
  where
    nothing_at : (i w : ℕ) → slice_get {X = ℕ} [] i ≡ Some w → ⊥
    nothing_at i w at = cc
words_have labels near line place above (nothing ∷ more) words e = words_have labels near (line + 1) place above more words e
words_have labels near line place above (label name ∷ more) words e =
    let s = chained (fault_as (Bad line) (defines above name)) _ words e in words_have labels near (line + 1) place (name ∷ above) more words s.after
words_have labels near line place above (instruction name operands ∷ more) words e =
    let s = chained (fault_as (Bad line) (word_of labels name operands >>= fits place)) _ words e in
    let fit = chained (word_of labels name operands) _ s.first (unfaulted line (word_of labels name operands >>= fits place) s.first s.was) in
    let low : s.first < 2 ^ 32 = subst (λ n. n < 2 ^ 32) (fits_has place fit.first s.first fit.after).1 (word_has labels near name operands fit.first fit.was) in
    let others = chained (words_from labels (line + 1) (place + 1) above more) _ words s.after in
    let same : s.first ∷ others.first ≡ words = cc in
    subst AreWords same (one_word s.first others.first low (words_have labels near (line + 1) (place + 1) above more others.first others.was))
  where
    one_word : (w : ℕ) (ws : List ℕ) → w < 2 ^ 32 → AreWords ws → AreWords (w ∷ ws)
    one_word w ws low all zero x at = let same : w ≡ x = cc in subst (λ n. n < 2 ^ 32) same low
    one_word w ws low all (suc i) x at = all i x at

-- the labels have places up to the number of words
labels_up_to : (n place : ℕ) (lines : List Statement) → place + word_count lines ≤ n → AreUpTo n (labels_from place lines)
labels_up_to n place [] h = tt
labels_up_to n place (nothing ∷ more) h = labels_up_to n place more h
labels_up_to n place (label name ∷ more) h = with_label (is_label_name name) (labels_up_to n place more h)
  where
    with_label : (b : Bool) → AreUpTo n (labels_from place more) → AreUpTo n (if b then (name, place) ∷ labels_from place more else labels_from place more)
    with_label true all = (omega (arith, h), all)
    with_label false all = all
labels_up_to n place (instruction name operands ∷ more) h = labels_up_to n (place + 1) more (omega (arith, h))

pub program_has : (text words : List ℕ) → program_of text ≡ Ok words → (length words ≤ 1024) × AreWords words
unfolding program_of
program_has text words e =
    let lines = statements text in
    let labels = labels_from 0 lines in
    let c = counted labels 1 0 [] lines words e in
    let few : word_count lines ≤ 1024 = omega (arith, c.count, c.few) in
    let up_to : AreUpTo (word_count lines) labels = labels_up_to (word_count lines) 0 lines (omega arith) in
    let near : AreNear labels = λ name p at. let low : p ≤ word_count lines = place_up_to (word_count lines) name labels p up_to at in omega (arith, low, few) in
    (omega (arith, c.few), words_have labels near 1 0 [] lines words e)
