-- The places of a line's words have the words as their texts, and lie in the line.
use Rattle.std.proofs.Common.{◌≡◌, ℕ, ◌+◌, ◌-◌, ◌<◌, ◌≤◌, nat_lt, List, [], ◌∷◌, ◌++◌, length, take, drop, slice_range, get_or, min, if◌then◌else◌, All, refl, ap, sym, subst, ◌∙◌, arith, inl, inr}
use Rattle.std.proofs.lemmas.List.{take_more, drop_more, get_or-drop, length-drop, length-take, map-append}
use Rattle.std.proofs.lemmas.List.Elements.{All-nil, All-cons, All-append, All-take}
use Rattle.std.specs.List.{take-map}
use Rattle.std.proofs.lemmas.Bool.{cases_Bool, ltb-true, ltb-false}
use Rattle.dc_base.specs.TextWords.{is_space, if_any, words_after, words_of}
use Rattle.dc_text.specs.Places.{place_if_any, places_after, places_of, texts_at, IsPlaceIn}

-- the byte behind a part
range_more : (line : List ℕ) (from at : ℕ) → from ≤ at → at < length line → slice_range line from (at + 1) ≡ slice_range line from at ++ get_or line at 0 ∷ []
range_more line from at ordered within =
    let k : ℕ = at - from in
    let more : (at + 1) - from ≡ k + 1 = omega (arith, ordered) in
    let back : from + k ≡ at = omega (arith, ordered) in
    let room : k < length (drop from line) = subst (λ n. k < n) (sym (length-drop from line)) (omega (arith, ordered, within)) in
    ap (λ n. take n (drop from line)) more ∙ take_more (drop from line) k 0 room
    ∙ ap (λ b. take k (drop from line) ++ b ∷ []) (get_or-drop from line k 0 ∙ ap (λ i. get_or line i 0) back)

range_none : (line : List ℕ) (at : ℕ) → slice_range line at at ≡ []
range_none line at = let nothing : at - at ≡ 0 = omega arith in ap (λ k. take k (drop at line)) nothing

if_any_some : (word : List ℕ) → 0 < length word → if_any word ≡ word ∷ []
if_any_some [] none = absurd (omega (arith, none))
if_any_some (b ∷ word) some = refl

-- the word at a place, where it has a byte
texts_at_place : (line : List ℕ) (from to : ℕ) → to ≤ length line → texts_at line (place_if_any from to) ≡ if_any (slice_range line from to)
texts_at_place line from to within = elim (cases_Bool (nat_lt from to)) [
  | inl below ↦ ap (λ t. texts_at line (if t then (from, to) ∷ [] else [])) below ∙ sym (some (ltb-true _ _ below))
  | inr above ↦ ap (λ t. texts_at line (if t then (from, to) ∷ [] else [])) above ∙ sym (nothing (ltb-false _ _ above))
]
  where
    some : from < to → if_any (slice_range line from to) ≡ slice_range line from to ∷ []
    some below =
        let all : length (slice_range line from to) ≡ min (to - from) (length line - from) = length-take (to - from) (drop from line) ∙ ap (λ n. min (to - from) n) (length-drop from line) in
        if_any_some _ (subst (λ n. 0 < n) (sym all) (omega (arith, below, within)))

    nothing : to ≤ from → if_any (slice_range line from to) ≡ []
    nothing above = let e : to - from ≡ 0 = omega (arith, above) in ap (λ k. if_any (take k (drop from line))) e

-- what is left at a byte
record IsLeft (line : List ℕ) (at b : ℕ) (rest : List ℕ) : Type 0 where
  within : at < length line
  byte : get_or line at 0 ≡ b
  further : drop (at + 1) line ≡ rest

left_at : (line : List ℕ) (at b : ℕ) (rest : List ℕ) → at ≤ length line → drop at line ≡ b ∷ rest → IsLeft line at b rest
left_at line at b rest ordered left =
    let count : length line - at ≡ length (b ∷ rest) = sym (length-drop at line) ∙ ap length left in
    let within : at < length line = omega (arith, ordered, count) in
    let both : get_or line at 0 ∷ drop (at + 1) line ≡ b ∷ rest = sym (drop_more line at 0 within) ∙ left in
    record { within = within; byte = cc both; further = cc both }

-- the texts at the places of what is left are its words
texts-places_after : (line rest : List ℕ) (from at : ℕ) → from ≤ at → at ≤ length line → drop at line ≡ rest → texts_at line (places_after from at rest) ≡ words_after is_space (slice_range line from at) rest
texts-places_after line [] from at ordered within left = texts_at_place line from at within
texts-places_after line (b ∷ rest) from at ordered within left =
    let l : IsLeft line at b rest = left_at line at b rest within left in
    let next : at + 1 ≤ length line = omega (arith, l.within) in
    let space : texts_at line (place_if_any from at ++ places_after (at + 1) (at + 1) rest) ≡ if_any (slice_range line from at) ++ words_after is_space [] rest =
    map-append (λ (place : ℕ × ℕ). slice_range line place.0 place.1) (place_if_any from at) (places_after (at + 1) (at + 1) rest)
    ∙ ap (λ ws. ws ++ texts_at line (places_after (at + 1) (at + 1) rest)) (texts_at_place line from at within)
    ∙ ap (λ ws. if_any (slice_range line from at) ++ ws) (texts-places_after line rest (at + 1) (at + 1) (omega arith) next l.further ∙ ap (λ word. words_after is_space word rest) (range_none line (at + 1))) in
    let other : texts_at line (places_after from (at + 1) rest) ≡ words_after is_space (slice_range line from at ++ b ∷ []) rest =
    texts-places_after line rest from (at + 1) (omega (arith, ordered)) next l.further
    ∙ ap (λ word. words_after is_space word rest) (range_more line from at ordered l.within ∙ ap (λ c. slice_range line from at ++ c ∷ []) l.byte) in
    elim (cases_Bool (is_space b)) [
      | inl here ↦ rw (here) space
      | inr there ↦ rw (there) other
    ]

pub texts-places_of : (line : List ℕ) (places : List (ℕ × ℕ)) → places ≡ take 16 (places_of line) → texts_at line places ≡ take 16 (words_of line)
texts-places_of line places found =
    ap (λ ps. texts_at line ps) found
    ∙ sym (take-map (λ (place : ℕ × ℕ). slice_range line place.0 place.1) 16 (places_of line))
    ∙ ap (λ ws. take 16 ws) (texts-places_after line line 0 0 (omega arith) (omega arith) refl)

place_within : (line : List ℕ) (from to : ℕ) → to ≤ length line → All (IsPlaceIn line) (place_if_any from to)
place_within line from to within = elim (cases_Bool (nat_lt from to)) [
  | inl below ↦ rw (below) (All-cons (IsPlaceIn line) (from, to) [] (ltb-true _ _ below, within) (All-nil (IsPlaceIn line)))
  | inr above ↦ rw (above) (All-nil (IsPlaceIn line))
]

places_within : (line rest : List ℕ) (from at : ℕ) → at + length rest ≡ length line → All (IsPlaceIn line) (places_after from at rest)
places_within line [] from at whole = place_within line from at (omega (arith, whole))
places_within line (b ∷ rest) from at whole =
    let next : (at + 1) + length rest ≡ length line = omega (arith, whole) in
    let further : All (IsPlaceIn line) (places_after (at + 1) (at + 1) rest) = places_within line rest (at + 1) (at + 1) next in
    let space : All (IsPlaceIn line) (place_if_any from at ++ places_after (at + 1) (at + 1) rest) =
    All-append (IsPlaceIn line) (place_if_any from at) _ (place_within line from at (omega (arith, whole))) further in
    let other : All (IsPlaceIn line) (places_after from (at + 1) rest) = places_within line rest from (at + 1) next in
    elim (cases_Bool (is_space b)) [
      | inl here ↦ rw (here) space
      | inr there ↦ rw (there) other
    ]

pub within-places_of : (line : List ℕ) (places : List (ℕ × ℕ)) → places ≡ take 16 (places_of line) → All (IsPlaceIn line) places
within-places_of line places found =
    subst (λ ps. All (IsPlaceIn line) ps) (sym found) (All-take (IsPlaceIn line) 16 (places_of line) (places_within line line 0 0 (omega arith)))
