-- What stands at a place of a list after one timer more or less.
use Rattle.std.proofs.Common.{◌≡◌, ◌<◌, ◌≤◌, ℕ, zero, suc, List, [], ◌∷◌, ◌++◌, length, take, drop, refl, ap, arith}
use Rattle.std.specs.Prelude.{Some, slice_get, insert, remove}
use Rattle.std.proofs.lemmas.Option.{none-some, same_Some}
use Rattle.dc_base.specs.declared.interrupts.Timer.{Timer}

pub get-remove_below : (xs : List Timer) (at i : ℕ) → i < at → slice_get (remove xs at) i ≡ slice_get xs i
get-remove_below xs zero i lt = absurd (omega arith)
get-remove_below [] (suc at) i lt = refl
get-remove_below (x ∷ xs) (suc at) zero lt = refl
get-remove_below (x ∷ xs) (suc at) (suc i) lt = get-remove_below xs at i (omega arith)

pub get-remove_above : (xs : List Timer) (at i : ℕ) → at ≤ i → slice_get (remove xs at) i ≡ slice_get xs (suc i)
get-remove_above [] zero i le = refl
get-remove_above (x ∷ xs) zero i le = refl
get-remove_above [] (suc at) i le = refl
get-remove_above (x ∷ xs) (suc at) zero le = absurd (omega arith)
get-remove_above (x ∷ xs) (suc at) (suc i) le = get-remove_above xs at i (omega arith)

pub get-insert_below : (xs : List Timer) (at : ℕ) (t : Timer) (i : ℕ) → i < at → at ≤ length xs → slice_get (insert xs at t) i ≡ slice_get xs i
get-insert_below xs zero t i lt le = absurd (omega arith)
get-insert_below [] (suc at) t i lt le = absurd (omega arith)
get-insert_below (x ∷ xs) (suc at) t zero lt le = refl
get-insert_below (x ∷ xs) (suc at) t (suc i) lt le = get-insert_below xs at t i (omega arith) (omega arith)

pub get-insert_at : (xs : List Timer) (at : ℕ) (t : Timer) → at ≤ length xs → slice_get (insert xs at t) at ≡ Some t
get-insert_at xs zero t le = refl
get-insert_at [] (suc at) t le = absurd (omega arith)
get-insert_at (x ∷ xs) (suc at) t le = get-insert_at xs at t (omega arith)

pub get-insert_above : (xs : List Timer) (at : ℕ) (t : Timer) (i : ℕ) → at ≤ i → at ≤ length xs → slice_get (insert xs at t) (suc i) ≡ slice_get xs i
get-insert_above xs zero t i le within = refl
get-insert_above [] (suc at) t i le within = absurd (omega arith)
get-insert_above (x ∷ xs) (suc at) t zero le within = absurd (omega arith)
get-insert_above (x ∷ xs) (suc at) t (suc i) le within = get-insert_above xs at t i (omega arith) (omega arith)

-- a list at a place
pub split-at : (xs : List Timer) (at : ℕ) (t : Timer) → slice_get xs at ≡ Some t → xs ≡ take at xs ++ t ∷ drop (suc at) xs
split-at [] at t e = absurd (none-some t e)
split-at (x ∷ xs) zero t e = ap (λ y. y ∷ xs) (same_Some x t e)
split-at (x ∷ xs) (suc at) t e = ap (λ ys. x ∷ ys) (split-at xs at t e)
