-- A line is looked at byte after byte.
use Rattle.std.proofs.Common.{◌≡◌, ℕ, zero, suc, ◌+◌, ◌<◌, ◌≤◌, ◌==◌, true, false, List, [], ◌∷◌, ◌++◌, length, take, drop, get_or, if◌then◌else◌, refl, ap, sym, subst, ◌∙◌, arith}
use Rattle.std.proofs.lemmas.List.{drop_more, length-append, append-nil, take_all}
use Rattle.std.proofs.Math.Seq.{drop-length, take-append_seam}
use Rattle.std.proofs.lemmas.Bool.{le-ltb, lt-ltb}
use mathlib.Core.List.{append_assoc}
use Rattle.dc_text.specs.Places.{place_if_any, places_after, places_of, IsScanned}

pub take_front : {X : Type 0} (n : ℕ) (xs ys : List X) → take n (take n xs ++ ys) ≡ take n (xs ++ ys)
take_front zero xs ys = refl
take_front (suc n) [] ys = refl
take_front (suc n) (x ∷ xs) ys = ap (λ zs. x ∷ zs) (take_front n xs ys)

-- what one more byte does to the places of what is left
places_step : (line : List ℕ) (from at : ℕ) → at < length line →
    places_after from at (drop at line) ≡ (if get_or line at 0 == 32 then place_if_any from at ++ places_after (at + 1) (at + 1) (drop (at + 1) line) else places_after from (at + 1) (drop (at + 1) line))
places_step line from at within = ap (λ bs. places_after from at bs) (drop_more line at 0 within)

-- a byte that is no space goes on with the word
pub goes_on : (line : List ℕ) (found : List (ℕ × ℕ)) (from at : ℕ) → at < length line → (get_or line at 0 == 32) ≡ false → IsScanned line found from at → IsScanned line found from (at + 1)
goes_on line found from at within other scanned =
    let rest : List ℕ = drop (at + 1) line in
    let step : places_after from at (drop at line) ≡ places_after from (at + 1) rest =
    places_step line from at within ∙ ap (λ t. if t then place_if_any from at ++ places_after (at + 1) (at + 1) rest else places_after from (at + 1) rest) other in
    record { ordered = omega (arith, scanned.ordered); whole = ap (λ places. take 16 (found ++ places)) (sym step) ∙ scanned.whole }

-- a space ends the word
pub word_ends : (line : List ℕ) (found : List (ℕ × ℕ)) (from at : ℕ) → at < length line → (get_or line at 0 == 32) ≡ true → IsScanned line found from at →
    IsScanned line (take 16 (found ++ place_if_any from at)) (at + 1) (at + 1)
word_ends line found from at within space scanned =
    let rest : List ℕ = drop (at + 1) line in
    let further : List (ℕ × ℕ) = places_after (at + 1) (at + 1) rest in
    let step : places_after from at (drop at line) ≡ place_if_any from at ++ further =
    places_step line from at within ∙ ap (λ t. if t then place_if_any from at ++ further else places_after from (at + 1) rest) space in
    record {
      ordered = omega arith;
      whole = take_front 16 (found ++ place_if_any from at) further
          ∙ ap (λ places. take 16 places) (append_assoc found (place_if_any from at) further ∙ ap (λ places. found ++ places) (sym step))
          ∙ scanned.whole;
    }

-- at the end the last word ends too
pub line_ends : (line : List ℕ) (found : List (ℕ × ℕ)) (from : ℕ) → IsScanned line found from (length line) → take 16 (found ++ place_if_any from (length line)) ≡ take 16 (places_of line)
line_ends line found from scanned = ap (λ bs. take 16 (found ++ places_after from (length line) bs)) (sym (drop-length line)) ∙ scanned.whole

-- no place is added to sixteen
pub no_room : (found more : List (ℕ × ℕ)) → length found ≡ 16 → found ≡ take 16 (found ++ more)
no_room found more full = sym (ap (λ n. take n (found ++ more)) (sym full) ∙ take-append_seam found more)

-- a place without a byte is not added
pub no_place : (found : List (ℕ × ℕ)) (from to : ℕ) → to ≤ from → length found ≤ 16 → found ≡ take 16 (found ++ place_if_any from to)
no_place found from to above fits =
    sym (ap (λ t. take 16 (found ++ (if t then (from, to) ∷ [] else []))) (le-ltb from to above) ∙ ap (λ ps. take 16 ps) (append-nil found) ∙ take_all 16 found fits)

-- one place is added
pub one_place : (found new : List (ℕ × ℕ)) (from to : ℕ) → from < to → length found < 16 → new ≡ found ++ (from, to) ∷ [] → new ≡ take 16 (found ++ place_if_any from to)
one_place found new from to below room added =
    let longer : length (found ++ (from, to) ∷ []) ≡ length found + 1 = length-append found _ in
    let fits : length (found ++ (from, to) ∷ []) ≤ 16 = subst (λ n. n ≤ 16) (sym longer) (omega (arith, room)) in
    added ∙ sym (ap (λ t. take 16 (found ++ (if t then (from, to) ∷ [] else []))) (lt-ltb from to below) ∙ take_all 16 _ fits)
