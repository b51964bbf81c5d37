-- The first line of a text.
use Rattle.std.proofs.Common.{◌≡◌, ℕ, ◌+◌, ◌-◌, ◌<◌, ◌≤◌, ◌==◌, Bool, true, false, not, cond, List, [], ◌∷◌, length, take, drop, Some, None, refl, ap, sym, subst, ◌∙◌, inl, inr, arith, unwrap_or, nat_lt}
use Rattle.std.specs.List.{position, position_or_len, slice_split, onto_first}
use Rattle.std.proofs.lemmas.Bool.{cases_Bool, ltb-false}
use Rattle.std.proofs.lemmas.List.{take_all, length-drop}
use Rattle.std.proofs.lemmas.List.Sums.{prefix_len-le-length}
use Rattle.std.proofs.lemmas.List.Splits.{slice_split_first}
use Rattle.dc_base.specs.TextWords.{newline, lines_of}

-- the place, or the length where there is none
pub place_or : (p : ℕ → Bool) (xs : List ℕ) → unwrap_or (position p xs) (length xs) ≡ position_or_len p xs
place_or p xs = elim (cases_Bool (nat_lt (position_or_len p xs) (length xs))) [
  | inl below ↦ ap (λ t. unwrap_or (cond t (Some (position_or_len p xs)) None) (length xs)) below
  | inr above ↦ ap (λ t. unwrap_or (cond t (Some (position_or_len p xs)) None) (length xs)) above ∙ (
      let past : length xs ≤ position_or_len p xs = ltb-false _ _ above in
      omega (arith, past, prefix_len-le-length (λ x. not (p x)) xs))
]

-- what follows a place
rest_of : (xs : List ℕ) (n : ℕ) → take (length xs - n) (drop n xs) ≡ drop n xs
rest_of xs n = take_all (length xs - n) (drop n xs) (let e = length-drop n xs in omega (arith, e))

-- a newline ends the first line
pub first_of_lines : (text : List ℕ) (end : ℕ) → end ≡ position_or_len (λ b. b == 10) text → end < length text →
    lines_of text ≡ take end text ∷ lines_of (take (length text - (end + 1)) (drop (end + 1) text))
first_of_lines text end is within =
    let below : position_or_len (λ b. b == 10) text < length text = subst (λ n. n < length text) is within in
    slice_split_first (λ b. b == newline) text 0 below ∙ sym (ap (λ n. take n text ∷ slice_split (λ b. b == newline) (drop (n + 1) text)) is)
    ∙ ap (λ rest. take end text ∷ slice_split (λ b. b == newline) rest) (sym (rest_of text (end + 1)))

-- without a separator the whole is one part
split_none : (p : ℕ → Bool) (xs : List ℕ) → length xs ≤ position_or_len p xs → slice_split p xs ≡ xs ∷ []
split_none p [] all = refl
split_none p (x ∷ xs) all = go (split_none p xs) (p x) refl
  where
    go : (length xs ≤ position_or_len p xs → slice_split p xs ≡ xs ∷ []) → (t : Bool) → p x ≡ t → slice_split p (x ∷ xs) ≡ (x ∷ xs) ∷ []
    go further true e = absurd (let none : position_or_len p (x ∷ xs) ≡ 0 = ap (λ t. cond (not t) (1 + position_or_len p xs) 0) e in omega (arith, none, all))
    go further false e =
        let more : position_or_len p (x ∷ xs) ≡ 1 + position_or_len p xs = ap (λ t. cond (not t) (1 + position_or_len p xs) 0) e in
        let fewer : length xs ≤ position_or_len p xs = omega (arith, more, all) in
        ap (λ t. cond t ([] ∷ slice_split p xs) (onto_first x (slice_split p xs))) e ∙ ap (onto_first x) (further fewer)

-- without a newline the text is one line
pub last_of_lines : (text : List ℕ) (end : ℕ) → end ≡ position_or_len (λ b. b == 10) text → length text ≤ end → lines_of text ≡ text ∷ []
last_of_lines text end is past = split_none (λ b. b == newline) text (subst (λ n. length text ≤ n) is past)
