-- Marked entries of one actor.
use Rattle.std.proofs.Common.{◌≡◌, ℕ, suc, ◌+◌, ◌==◌, Bool, true, false, cond, List, [], ◌∷◌, ◌++◌, length, sym, refl, ap, ◌∙◌, arith}
use Rattle.std.proofs.Common.{eq-eqb}
use mathlib.Core.List.{IsPrefix}
use Rattle.std.proofs.lemmas.List.{append-nil}
use Rattle.dc_stage.specs.History.{Log, own}
use Rattle.dc_stage.proofs.Logs.{own_rest}
use Rattle.dc_logs.specs.Marks.{marked}

none_of : {A : Type 0} (xs : List A) → length xs ≡ 0 → xs ≡ []
none_of [] h = refl
none_of (x ∷ xs) h = absurd (omega arith)

module _ {En : Type 0} where
  length_by : (b : Bool) (x : ℕ × En) (m : ℕ × En) (ms : List (ℕ × En)) (os : Log En) → length ms ≡ length os
      → length (cond b (m ∷ ms) ms) ≡ length (cond b (x ∷ os) os)
  length_by true x m ms os h = ap suc h
  length_by false x m ms os h = h

  pub length_marked : (a k : ℕ) (xs : Log En) → length (marked a k xs) ≡ length (own a xs)
  length_marked a k [] = refl
  length_marked a k (x ∷ xs) = length_by (a == x.0) x (k, x.1) (marked a (suc k) xs) (own a xs) (length_marked a (suc k) xs)

  pub marked_none : (a k : ℕ) (xs : Log En) → own a xs ≡ [] → marked a k xs ≡ []
  marked_none a k xs h = none_of (marked a k xs) (length_marked a k xs ∙ ap length h)

  append_by : (b : Bool) (m : ℕ × En) (xs ys : List (ℕ × En)) → cond b (m ∷ xs ++ ys) (xs ++ ys) ≡ cond b (m ∷ xs) xs ++ ys
  append_by true m xs ys = refl
  append_by false m xs ys = refl

  pub marked_append : (a k : ℕ) (xs ys : Log En) → marked a k (xs ++ ys) ≡ marked a k xs ++ marked a (k + length xs) ys
  marked_append a k [] ys = ap (λ n. marked a n ys) (omega arith)
  marked_append a k (x ∷ xs) ys =
      ap (λ z. cond (a == x.0) ((k, x.1) ∷ z) z) (marked_append a (suc k) xs ys ∙ ap (λ n. marked a (suc k) xs ++ marked a n ys) (omega arith))
      ∙ append_by (a == x.0) (k, x.1) (marked a (suc k) xs) (marked a (k + suc (length xs)) ys)

  kept_by : (a : ℕ) (xs rest ys : Log En) → xs ++ rest ≡ ys → own a ys ≡ own a xs → marked a 0 ys ≡ marked a 0 xs
  kept_by a xs rest ys is same =
      ap (λ z. marked a 0 z) (sym is)
      ∙ (marked_append a 0 xs rest
      ∙ (ap (λ z. marked a 0 xs ++ z) (marked_none a (0 + length xs) rest (own_rest a xs rest (ap (own a) is ∙ same)))
      ∙ append-nil (marked a 0 xs)))

  -- where no entry of the actor is new, none is marked anew
  pub marked_kept : (a : ℕ) (xs ys : Log En) → IsPrefix xs ys → own a ys ≡ own a xs → marked a 0 ys ≡ marked a 0 xs
  marked_kept a xs ys pre same = kept_by a xs pre.0 ys pre.1 same

  here : (a k : ℕ) (e : En) → marked a k ((a, e) ∷ []) ≡ (k, e) ∷ []
  here a k e = ap (λ b. cond b ((k, e) ∷ []) []) (eq-eqb a a refl)

  -- a new entry of the actor is marked with its place
  pub marked_snoc : (a : ℕ) (xs : Log En) (e : En) → marked a 0 (xs ++ (a, e) ∷ []) ≡ marked a 0 xs ++ (length xs, e) ∷ []
  marked_snoc a xs e =
      marked_append a 0 xs ((a, e) ∷ [])
      ∙ (ap (λ n. marked a 0 xs ++ marked a n ((a, e) ∷ [])) (omega arith) ∙ ap (λ z. marked a 0 xs ++ z) (here a (length xs) e))
