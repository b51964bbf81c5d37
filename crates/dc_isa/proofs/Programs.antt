-- Places of labels past the last word do not matter, since such a text has too many words.
use Rattle.std.proofs.Common.{◌≡◌, ℕ, ◌+◌, ◌<◌, ◌≤◌, ◌==◌, ◌*◌, ◌^◌, Bool, true, false, cond, List, [], ◌∷◌, length, Option, Some, None, Result, Ok, Err, is_some, is_ok, ◌⊎◌, refl, ap, ◌∙◌, inl, inr, if◌then◌else◌, arith, nat_lt, min}
use Rattle.std.specs.Prelude.{find, bytes_eq, slice_index, drop, IfSome}
use Rattle.std.specs.Option.{option_map}
use Rattle.std.proofs.lemmas.Bool.{cases_lt, lt-ltb, le-ltb}
use Rattle.dc_base.specs.declared.faults.AsmKind.{AsmKind}
use Rattle.dc_base.specs.declared.faults.AsmKind.TheVariants as fault
use Rattle.dc_base.specs.declared.faults.AsmFault.{AsmFault}
use Rattle.dc_base.specs.declared.faults.AsmFault.TheVariants.{Bad}
use Rattle.dc_base.specs.Results.{◌>>=◌, fault_as}
use Rattle.dc_base.specs.Operations.{Operand, register_a, register_b, slot_a, slot_b, immediate, target, grant, made, whole, Operation, operations, weight}
use Rattle.dc_base.specs.ProgramText.{Label, Statement, nothing, label, instruction, is_label_name, is_16_bits, number, place_of, labels_from, words_from, word_of, if_known, if_defined, operand, operands_sum, defines, fits, statements, program_of}
use Rattle.dc_isa.specs.Labels.{capped}
use Rattle.dc_isa.proofs.LabelLaws.{place_of_capped}

-- both have a value, or both have the same fault
SameFault : {A B F : Type 0} → Result A F → Result B F → Type 0
SameFault (Ok x) (Ok y) = Unit {0}
SameFault (Err e) (Err f) = e ≡ f
SameFault (Ok x) (Err f) = ⊥
SameFault (Err e) (Ok y) = ⊥

SameFault-refl : {A F : Type 0} (r : Result A F) → SameFault r r
unfolding SameFault
SameFault-refl (Ok x) = tt
SameFault-refl (Err e) = refl

SameFault-bind : {A B C D F : Type 0} (r : Result A F) (s : Result B F) (f : A → Result C F) (g : B → Result D F) → SameFault r s → ((x : A) (y : B) → SameFault (f x) (g y)) → SameFault (r >>= f) (s >>= g)
unfolding SameFault
SameFault-bind (Ok x) (Ok y) f g same further = further x y
SameFault-bind (Err e) (Err d) f g same further = same
SameFault-bind (Ok x) (Err d) f g same further = absurd same
SameFault-bind (Err e) (Ok y) f g same further = absurd same

SameFault-as : {A B F G : Type 0} (g : F → G) (r : Result A F) (s : Result B F) → SameFault r s → SameFault (fault_as g r) (fault_as g s)
unfolding SameFault
SameFault-as g (Ok x) (Ok y) same = tt
SameFault-as g (Err e) (Err d) same = ap g same
SameFault-as g (Ok x) (Err d) same = absurd same
SameFault-as g (Err e) (Ok y) same = absurd same

-- where neither has a value they are alike
same_fault_is : {A F : Type 0} (r s : Result A F) → SameFault r s → is_ok s ≡ false → r ≡ s
unfolding SameFault
same_fault_is (Ok x) (Ok y) same none = absurd (let bad : true ≡ false = none in cc)
same_fault_is (Err e) (Err d) same none = ap Err same
same_fault_is (Ok x) (Err d) same none = absurd same
same_fault_is (Err e) (Ok y) same none = absurd same

fit-alike : (t : Bool) (x y : ℕ) → SameFault {A = ℕ} {B = ℕ} (if t then Ok x else Err fault.TooLong) (if t then Ok y else Err fault.TooLong)
unfolding SameFault
fit-alike true x y = tt
fit-alike false x y = refl

-- labels with places at the same names
module _ (labels others : List Label) (alike : (q : List ℕ) → is_some (place_of labels q) ≡ is_some (place_of others q)) where
  defined-alike : (p r : Option ℕ) → is_some p ≡ is_some r → SameFault (if_defined p) (if_defined r)
  unfolding SameFault
  defined-alike None None e = refl
  defined-alike (Some x) (Some y) e = tt
  defined-alike None (Some y) e = absurd (let bad : false ≡ true = e in cc)
  defined-alike (Some x) None e = absurd (let bad : true ≡ false = e in cc)

  target-alike : (t : Bool) (word : List ℕ) → SameFault (if t then if_defined (place_of labels (drop 1 word)) else number is_16_bits word) (if t then if_defined (place_of others (drop 1 word)) else number is_16_bits word)
  target-alike true word = defined-alike (place_of labels (drop 1 word)) (place_of others (drop 1 word)) (alike (drop 1 word))
  target-alike false word = SameFault-refl (number is_16_bits word)

  operand-alike : (o : Operand) (word : List ℕ) → SameFault (operand labels o word) (operand others o word)
  operand-alike target word = target-alike (slice_index word 0 == 64) word
  operand-alike register_a word = SameFault-refl (operand labels register_a word)
  operand-alike register_b word = SameFault-refl (operand labels register_b word)
  operand-alike slot_a word = SameFault-refl (operand labels slot_a word)
  operand-alike slot_b word = SameFault-refl (operand labels slot_b word)
  operand-alike immediate word = SameFault-refl (operand labels immediate word)
  operand-alike grant word = SameFault-refl (operand labels grant word)
  operand-alike made word = SameFault-refl (operand labels made word)
  operand-alike whole word = SameFault-refl (operand labels whole word)

  sum-alike : (os : List Operand) (words : List (List ℕ)) → SameFault (operands_sum labels os words) (operands_sum others os words)
  unfolding SameFault
  sum-alike [] [] = tt
  sum-alike (o ∷ os) (word ∷ words) =
      SameFault-bind (operand labels o word) (operand others o word) (λ n. operands_sum labels os words >>= (λ sum. Ok (n * weight o + sum))) (λ n. operands_sum others os words >>= (λ sum. Ok (n * weight o + sum)))
      (operand-alike o word) (λ n m. SameFault-bind (operands_sum labels os words) (operands_sum others os words) (λ sum. Ok (n * weight o + sum)) (λ sum. Ok (m * weight o + sum)) (sum-alike os words) (λ x y. tt))
  sum-alike [] (word ∷ words) = refl
  sum-alike (o ∷ os) [] = refl

  known-alike : (words : List (List ℕ)) (o : Option Operation) → SameFault (if_known labels words o) (if_known others words o)
  unfolding SameFault
  known-alike words None = refl
  known-alike words (Some o) = elim (length words == length o.operands) as (λ t. SameFault (if t then operands_sum labels o.operands words >>= (λ n. Ok (o.number * 2 ^ 24 + n)) else Err fault.BadOperand)
      (if t then operands_sum others o.operands words >>= (λ n. Ok (o.number * 2 ^ 24 + n)) else Err fault.BadOperand)) [
        | true ↦ SameFault-bind (operands_sum labels o.operands words) (operands_sum others o.operands words) (λ n. Ok (o.number * 2 ^ 24 + n)) (λ n. Ok (o.number * 2 ^ 24 + n)) (sum-alike o.operands words) (λ x y. tt)
        | false ↦ refl
      ]

  word_of-alike : (name : List ℕ) (words : List (List ℕ)) → SameFault (word_of labels name words) (word_of others name words)
  unfolding word_of
  word_of-alike name words = known-alike words (find (λ (o : Operation). bytes_eq o.name name) operations)

  words_from-alike : (line place : ℕ) (above : List (List ℕ)) (more : List Statement) → SameFault (words_from labels line place above more) (words_from others line place above more)
  unfolding SameFault
  words_from-alike line place above [] = tt
  words_from-alike line place above (nothing ∷ more) = words_from-alike (line + 1) place above more
  words_from-alike line place above (label name ∷ more) =
      SameFault-bind (fault_as (Bad line) (defines above name)) (fault_as (Bad line) (defines above name)) (λ _. words_from labels (line + 1) place (name ∷ above) more) (λ _. words_from others (line + 1) place (name ∷ above) more)
      (SameFault-refl (fault_as (Bad line) (defines above name))) (λ x y. words_from-alike (line + 1) place (name ∷ above) more)
  words_from-alike line place above (instruction name operands ∷ more) =
      SameFault-bind (fault_as (Bad line) (word_of labels name operands >>= fits place)) (fault_as (Bad line) (word_of others name operands >>= fits place))
      (λ word. words_from labels (line + 1) (place + 1) above more >>= (λ words. Ok (word ∷ words))) (λ word. words_from others (line + 1) (place + 1) above more >>= (λ words. Ok (word ∷ words)))
      (SameFault-as (Bad line) (word_of labels name operands >>= fits place) (word_of others name operands >>= fits place)
      (SameFault-bind (word_of labels name operands) (word_of others name operands) (fits place) (fits place) (word_of-alike name operands) (fit-alike (nat_lt place 1024))))
      (λ x y. SameFault-bind (words_from labels (line + 1) (place + 1) above more) (words_from others (line + 1) (place + 1) above more) (λ words. Ok (x ∷ words)) (λ words. Ok (y ∷ words)) (words_from-alike (line + 1) (place + 1) above more) (λ xs ys. tt))

-- labels with the same places
module _ (labels others : List Label) (same : (q : List ℕ) → place_of labels q ≡ place_of others q) where
  operand-same : (o : Operand) (word : List ℕ) → operand labels o word ≡ operand others o word
  operand-same target word = ap (λ p. if slice_index word 0 == 64 then if_defined p else number is_16_bits word) (same (drop 1 word))
  operand-same register_a word = refl
  operand-same register_b word = refl
  operand-same slot_a word = refl
  operand-same slot_b word = refl
  operand-same immediate word = refl
  operand-same grant word = refl
  operand-same made word = refl
  operand-same whole word = refl

  sum-same : (os : List Operand) (words : List (List ℕ)) → operands_sum labels os words ≡ operands_sum others os words
  sum-same [] [] = refl
  sum-same (o ∷ os) (word ∷ words) =
      ap (λ r. r >>= (λ n. operands_sum labels os words >>= (λ sum. Ok (n * weight o + sum)))) (operand-same o word)
      ∙ ap (λ r. operand others o word >>= (λ n. r >>= (λ sum. Ok (n * weight o + sum)))) (sum-same os words)
  sum-same [] (word ∷ words) = refl
  sum-same (o ∷ os) [] = refl

  word_of-same : (name : List ℕ) (words : List (List ℕ)) → word_of labels name words ≡ word_of others name words
  unfolding word_of
  word_of-same name words = known (find (λ (o : Operation). bytes_eq o.name name) operations)
    where
      known : (o : Option Operation) → if_known labels words o ≡ if_known others words o
      known None = refl
      known (Some o) = ap (λ r. if length words == length o.operands then r >>= (λ n. Ok (o.number * 2 ^ 24 + n)) else Err fault.BadOperand) (sum-same o.operands words)

  words_from-same : (line place : ℕ) (above : List (List ℕ)) (more : List Statement) → words_from labels line place above more ≡ words_from others line place above more
  words_from-same line place above [] = refl
  words_from-same line place above (nothing ∷ more) = words_from-same (line + 1) place above more
  words_from-same line place above (label name ∷ more) = ap (λ r. fault_as (Bad line) (defines above name) >>= (λ _. r)) (words_from-same (line + 1) place (name ∷ above) more)
  words_from-same line place above (instruction name operands ∷ more) =
      ap (λ w. fault_as (Bad line) (w >>= fits place) >>= (λ word. words_from labels (line + 1) (place + 1) above more >>= (λ words. Ok (word ∷ words)))) (word_of-same name operands)
      ∙ ap (λ r. fault_as (Bad line) (word_of others name operands >>= fits place) >>= (λ word. r >>= (λ words. Ok (word ∷ words)))) (words_from-same (line + 1) (place + 1) above more)

-- how many words a text has
count : List Statement → ℕ
count [] = 0
count (nothing ∷ more) = count more
count (label name ∷ more) = count more
count (instruction name operands ∷ more) = 1 + count more

bind-none : {A B F : Type 0} (r : Result A F) (f : A → Result B F) → ((x : A) → is_ok (f x) ≡ false) → is_ok (r >>= f) ≡ false
bind-none (Ok x) f none = none x
bind-none (Err e) f none = refl

words-none : {A B F : Type 0} (r : Result A F) (f : A → B) → is_ok r ≡ false → (let g : A → Result B F = λ x. Ok (f x) in is_ok (r >>= g) ≡ false)
words-none (Ok x) f none = none
words-none (Err e) f none = refl

-- one more word, where there are too many
too_many_words : (line place n : ℕ) (further : Result (List ℕ) AsmFault) → 1024 < place + (1 + n) → (place + 1 ≤ 1024 → 1024 < place + 1 + n → is_ok further ≡ false) → (r : Result ℕ AsmKind) → (place < 1024) ⊎ (1024 ≤ place) →
    is_ok (fault_as (Bad line) (r >>= fits place) >>= (λ word. further >>= (λ words. Ok (word ∷ words)))) ≡ false
too_many_words line place n further high none (Err kind) side = refl
too_many_words line place n further high none (Ok word) (inl room) =
    ap (λ t. is_ok (fault_as (Bad line) (if t then Ok word else Err fault.TooLong) >>= (λ word. further >>= (λ words. Ok (word ∷ words))))) (lt-ltb place 1024 room)
    ∙ words-none further (λ words. word ∷ words) (none (omega (arith, room)) (omega (arith, high)))
too_many_words line place n further high none (Ok word) (inr full) =
    ap (λ t. is_ok (fault_as (Bad line) (if t then Ok word else Err fault.TooLong) >>= (λ word. further >>= (λ words. Ok (word ∷ words))))) (le-ltb place 1024 full)

-- a text with too many words has a fault
too_many : (labels : List Label) (line place : ℕ) (above : List (List ℕ)) (more : List Statement) → place ≤ 1024 → 1024 < place + count more → is_ok (words_from labels line place above more) ≡ false
unfolding count
too_many labels line place above [] low high = absurd (omega (arith, low, high))
too_many labels line place above (nothing ∷ more) low high = too_many labels (line + 1) place above more low high
too_many labels line place above (label name ∷ more) low high =
    bind-none (fault_as (Bad line) (defines above name)) (λ _. words_from labels (line + 1) place (name ∷ above) more) (λ _. too_many labels (line + 1) place (name ∷ above) more low high)
too_many labels line place above (instruction name operands ∷ more) low high =
    too_many_words line place (count more) (words_from labels (line + 1) (place + 1) above more) high (too_many labels (line + 1) (place + 1) above more) (word_of labels name operands) (cases_lt place 1024)

-- each place of a label is at most the number of words
if_some_le : (p : Option ℕ) (m n : ℕ) → m ≤ n → IfSome p (λ x. x ≤ m) → IfSome p (λ x. x ≤ n)
if_some_le None m n le h = tt
if_some_le (Some x) m n le h = omega (arith, le, h)

below_with_label : (name : List ℕ) (place : ℕ) (further : List Label) (q : List ℕ) (n : ℕ) → place ≤ n → (t : Bool) → IfSome (place_of further q) (λ p. p ≤ n) → IfSome (place_of (if t then (name, place) ∷ further else further) q) (λ p. p ≤ n)
below_with_label name place further q n le false h = h
below_with_label name place further q n le true h = elim (bytes_eq name q) as (λ t. IfSome (option_map (λ (l : Label). l.1) (cond t (Some (name, place)) (find (λ (l : Label). bytes_eq l.0 q) further))) (λ p. p ≤ n)) [
  | true ↦ le
  | false ↦ h
]

places_below : (place : ℕ) (more : List Statement) (q : List ℕ) → IfSome (place_of (labels_from place more) q) (λ p. p ≤ place + count more)
unfolding count
places_below place [] q = tt
places_below place (nothing ∷ more) q = places_below place more q
places_below place (label name ∷ more) q = below_with_label name place (labels_from place more) q (place + count more) (omega arith) (is_label_name name) (places_below place more q)
places_below place (instruction name operands ∷ more) q = if_some_le (place_of (labels_from (place + 1) more) q) (place + 1 + count more) (place + (1 + count more)) (omega arith) (places_below (place + 1) more q)

cap-same : (p : Option ℕ) (n : ℕ) → n ≤ 1024 → IfSome p (λ x. x ≤ n) → option_map (λ x. min x 1025) p ≡ p
cap-same None n low h = refl
cap-same (Some x) n low h = let e : min x 1025 ≡ x = omega (arith, low, h) in ap Some e

cap-alike : (p : Option ℕ) → is_some (option_map (λ x. min x 1025) p) ≡ is_some p
cap-alike None = refl
cap-alike (Some x) = refl

-- with the places of the text's labels, at most 1,025, the words are the text's
pub same_program : (labels : List Label) (text : List ℕ) → ((q : List ℕ) → place_of labels q ≡ place_of (labels_from 0 (statements text)) q) →
    words_from (capped labels) 1 0 [] (statements text) ≡ program_of text
unfolding program_of
same_program labels text told = elim (cases_lt 1024 (count (statements text))) [
  | inl many ↦ same_fault_is _ _ (words_from-alike (capped labels) (labels_from 0 (statements text)) (λ q. ap is_some (place_of_capped labels q) ∙ cap-alike (place_of labels q) ∙ ap is_some (told q)) 1 0 [] (statements text))
      (too_many (labels_from 0 (statements text)) 1 0 [] (statements text) (omega arith) (omega (arith, many)))
  | inr few ↦ words_from-same (capped labels) (labels_from 0 (statements text)) (λ q. place_of_capped labels q ∙ ap (option_map (λ x. min x 1025)) (told q) ∙ cap-same (place_of (labels_from 0 (statements text)) q) (0 + count (statements text)) (omega (arith, few)) (places_below 0 (statements text) q)) 1 0 [] (statements text)
]
