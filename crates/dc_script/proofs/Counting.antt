-- Lines that count, and what one more of them says.
use Rattle.std.proofs.Common.{◌≡◌, ℕ, ◌+◌, ◌-◌, ◌<◌, ◌≤◌, ◌==◌, ◌&&◌, nat_lt, suc, true, false, not, List, [], ◌∷◌, ◌++◌, length, take, Result, Ok, Err, refl, ap, sym, ◌∙◌, inl, inr, arith, if◌then◌else◌}
use Rattle.std.proofs.lemmas.Bool.{cases_Bool, lt-ltb, and_parts}
use Rattle.std.proofs.lemmas.List.{length-append}
use Rattle.dc_base.specs.declared.faults.TextKind.{TextKind}
use Rattle.dc_base.specs.declared.faults.TextKind.TheVariants.{TooMany}
use Rattle.dc_base.specs.declared.faults.TextFault.{TextFault}
use Rattle.dc_base.specs.declared.faults.TextFault.TheVariants.{Bad}
use Rattle.dc_base.specs.Results.{◌>>=◌, fault_as}
use Rattle.dc_base.specs.TextWords.{words_of, first_words}
use Rattle.dc_base.specs.ScriptText.{Numbered, counts, counted_from, lines_read}
use Rattle.dc_text.specs.Rest.{joined}
use Rattle.dc_text.proofs.Joining.{joined_more}
use Rattle.dc_script.specs.Texts.{is_comment, counted_words, said_from}

-- a comment does not count
pub comment : (line : List ℕ) → true ≡ is_comment line → [] ≡ counted_words line
comment [] hash = cc
comment (b ∷ line) hash = ap (λ t. if not t && nat_lt 0 (length (words_of (b ∷ line))) then first_words (b ∷ line) else []) hash

-- words are taken where there is one
taken_where_some : (words : List (List ℕ)) → take 16 words ≡ (if nat_lt 0 (length words) then take 16 words else [])
taken_where_some [] = refl
taken_where_some (u ∷ words) =
    let some : nat_lt 0 (length (u ∷ words)) ≡ true = lt-ltb 0 (length (u ∷ words)) (omega arith) in
    sym (ap (λ t. if t then take 16 (u ∷ words) else []) some)

-- a line that is no comment counts where it has words
pub plain : (line : List ℕ) → false ≡ is_comment line → first_words line ≡ counted_words line
plain [] other = refl
plain (b ∷ line) other = taken_where_some (words_of (b ∷ line)) ∙ ap (λ t. if not t && nat_lt 0 (length (words_of (b ∷ line))) then first_words (b ∷ line) else []) other

-- a line that counts has a first word
has_first : (line : List ℕ) → counts line ≡ true → first_words line ≡ [] → ⊥
has_first [] counted none = cc
has_first (b ∷ line) counted none = of_some (words_of (b ∷ line)) (and_parts (not (b == 35)) (nat_lt 0 (length (words_of (b ∷ line)))) counted).1 none
  where
    of_some : (words : List (List ℕ)) → nat_lt 0 (length words) ≡ true → take 16 words ≡ [] → ⊥
    of_some [] some none = cc
    of_some (u ∷ words) some none = cc

counted_none : (line : List ℕ) → counted_words line ≡ [] → counts line ≡ false
counted_none line none = elim (cases_Bool (counts line)) [
  | inl counted ↦ absurd (has_first line counted (sym (ap (λ t. if t then first_words line else []) counted) ∙ none))
  | inr not_counted ↦ not_counted
]

-- the line counts, and has these first words
record HasFirst (line : List ℕ) (words : List (List ℕ)) : Type 0 where
  counted : counts line ≡ true
  first : first_words line ≡ words

counted_some : (line : List ℕ) (u : List ℕ) (us : List (List ℕ)) → counted_words line ≡ u ∷ us → HasFirst line (u ∷ us)
counted_some line u us some = elim (cases_Bool (counts line)) [
  | inl counted ↦ record { counted = counted; first = sym (ap (λ t. if t then first_words line else []) counted) ∙ some }
  | inr not_counted ↦ absurd (let none : [] ≡ u ∷ us = sym (ap (λ t. if t then first_words line else []) not_counted) ∙ some in cc)
]

counted_more : (n : ℕ) (line : List ℕ) (more : List (List ℕ)) (u : List ℕ) (us : List (List ℕ)) → counted_words line ≡ u ∷ us → counted_from n (line ∷ more) ≡ (n, u ∷ us) ∷ counted_from (n + 1) more
counted_more n line more u us some =
    let line_has = counted_some line u us some in
    let further : List Numbered = counted_from (n + 1) more in
    ap (λ t. if t then (n, first_words line) ∷ further else further) line_has.counted ∙ ap (λ words. (n, words) ∷ further) line_has.first

-- a line that does not count says nothing
pub skips : {A : Type 0} (read : List (List ℕ) → Result A TextKind) (limit : ℕ) (found : List A) (n : ℕ) (line : List ℕ) → counted_words line ≡ [] → (more : List (List ℕ)) →
    said_from read limit found n (line ∷ more) ≡ said_from read limit found (n + 1) more
skips read limit found n line none more =
    let further : List Numbered = counted_from (n + 1) more in
    ap (λ t. joined found (lines_read read (limit - length found) (if t then (n, first_words line) ∷ further else further))) (counted_none line none)

-- no line may count any more
pub too_many : {A : Type 0} (read : List (List ℕ) → Result A TextKind) (limit : ℕ) (found : List A) (n : ℕ) (line : List ℕ) (u : List ℕ) (us : List (List ℕ)) → counted_words line ≡ u ∷ us → limit ≤ length found → (more : List (List ℕ)) →
    said_from read limit found n (line ∷ more) ≡ Err (Bad n TooMany)
too_many read limit found n line u us some full more =
    let none_left : limit - length found ≡ 0 = omega (arith, full) in
    ap (λ lines. joined found (lines_read read (limit - length found) lines)) (counted_more n line more u us some)
    ∙ ap (λ left. joined found (lines_read read left ((n, u ∷ us) ∷ counted_from (n + 1) more))) none_left

-- a line that counts is read
read_more : {A : Type 0} (read : List (List ℕ) → Result A TextKind) (limit : ℕ) (found : List A) (n : ℕ) (line : List ℕ) (u : List ℕ) (us : List (List ℕ)) (more : List (List ℕ)) → counted_words line ≡ u ∷ us → length found < limit →
    said_from read limit found n (line ∷ more)
    ≡ joined found (fault_as (Bad n) (read (u ∷ us)) >>= (λ x. lines_read read (limit - (length found + 1)) (counted_from (n + 1) more) >>= (λ xs. Ok (x ∷ xs))))
read_more read limit found n line u us more some room =
    let one_less : limit - length found ≡ suc (limit - (length found + 1)) = omega (arith, room) in
    ap (λ lines. joined found (lines_read read (limit - length found) lines)) (counted_more n line more u us some)
    ∙ ap (λ left. joined found (lines_read read left ((n, u ∷ us) ∷ counted_from (n + 1) more))) one_less

-- the line has a fault
pub refuses : {A : Type 0} (read : List (List ℕ) → Result A TextKind) (limit : ℕ) (found : List A) (n : ℕ) (line : List ℕ) (u : List ℕ) (us : List (List ℕ)) (kind : TextKind) → counted_words line ≡ u ∷ us → length found < limit → Err kind ≡ read (u ∷ us) → (more : List (List ℕ)) →
    said_from read limit found n (line ∷ more) ≡ Err (Bad n kind)
refuses read limit found n line u us kind some room fault more =
    read_more read limit found n line u us more some room
    ∙ sym (ap (λ r. joined found (fault_as (Bad n) r >>= (λ x. lines_read read (limit - (length found + 1)) (counted_from (n + 1) more) >>= (λ xs. Ok (x ∷ xs))))) fault)

-- the line is added
pub adds : {A : Type 0} (read : List (List ℕ) → Result A TextKind) (limit : ℕ) (found new : List A) (n : ℕ) (line : List ℕ) (u : List ℕ) (us : List (List ℕ)) (x : A) → counted_words line ≡ u ∷ us → length found < limit → Ok x ≡ read (u ∷ us) → new ≡ found ++ x ∷ [] → (more : List (List ℕ)) →
    said_from read limit found n (line ∷ more) ≡ said_from read limit new (n + 1) more
adds read limit found new n line u us x some room says added more =
    let further : ℕ → Result (List _) TextFault = λ left. lines_read read left (counted_from (n + 1) more) in
    let longer : length new ≡ length found + 1 = ap length added ∙ length-append found (x ∷ []) in
    read_more read limit found n line u us more some room
    ∙ sym (ap (λ r. joined found (fault_as (Bad n) r >>= (λ y. further (limit - (length found + 1)) >>= (λ xs. Ok (y ∷ xs))))) says)
    ∙ joined_more found x (further (limit - (length found + 1)))
    ∙ ap (λ xs. joined xs (further (limit - (length found + 1)))) (sym added)
    ∙ ap (λ k. joined new (further (limit - k))) (sym longer)
