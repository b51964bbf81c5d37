-- Where marks stand: what is marked stands in the history, what stands there is marked, and no two marks are of one place.
use Rattle.std.proofs.Common.{◌≡◌, ◌≢◌, ℕ, zero, suc, ◌+◌, ◌<◌, cond, List, [], ◌∷◌, Some, sym, refl, ap, ap₂, ◌∙◌, subst, arith, eq-eqb, ne_eqb}
use Rattle.std.specs.Prelude.{slice_get}
use Rattle.std.proofs.lemmas.Option.{same_Some}
use mathlib.Core.Logic.{dite}
use native.Mathlib.Decide.{ℕ_discrete}
use Rattle.dc_stage.specs.History.{Log}
use Rattle.dc_logs.specs.Marks.{marked}

module _ {En : Type 0} where
  marked_hit : (a k : ℕ) (x : ℕ × En) (xs : Log En) → a ≡ x.0 → marked a k (x ∷ xs) ≡ (k, x.1) ∷ marked a (suc k) xs
  marked_hit a k x xs e = ap (λ b. cond b ((k, x.1) ∷ marked a (suc k) xs) (marked a (suc k) xs)) (eq-eqb a x.0 e)

  marked_miss : (a k : ℕ) (x : ℕ × En) (xs : Log En) → a ≢ x.0 → marked a k (x ∷ xs) ≡ marked a (suc k) xs
  marked_miss a k x xs e = ap (λ b. cond b ((k, x.1) ∷ marked a (suc k) xs) (marked a (suc k) xs)) (ne_eqb a x.0 e)

  -- what is marked stands in the history
  abbrev IsMarkAt : ℕ → ℕ → Log En → ℕ × En → Type 0
  IsMarkAt a k h m = (j : ℕ) × (m.0 ≡ k + j) × (slice_get h j ≡ Some (a, m.1))

  further : (a k : ℕ) (x : ℕ × En) (xs : Log En) (m : ℕ × En) → IsMarkAt a (suc k) xs m → IsMarkAt a k (x ∷ xs) m
  further a k x xs m (j, e, is) = (suc j, omega (arith, e), is)

  mark_here : (a k : ℕ) (x : ℕ × En) (xs ms : List (ℕ × En)) (i : ℕ) (m : ℕ × En) → a ≡ x.0
      → ((i : ℕ) (m : ℕ × En) → slice_get ms i ≡ Some m → IsMarkAt a (suc k) xs m)
      → slice_get ((k, x.1) ∷ ms) i ≡ Some m → IsMarkAt a k (x ∷ xs) m
  mark_here a k x xs ms zero m e rest is =
      let same : (k, x.1) ≡ m = same_Some (k, x.1) m is in
      (0, sym (ap (λ z. z.0) same) ∙ omega arith, ap Some (ap₂ (λ p q. (p, q)) (sym e) (ap (λ z. z.1) same)))
  mark_here a k x xs ms (suc i) m e rest is = further a k x xs m (rest i m is)

  pub mark_at : (a k : ℕ) (h : Log En) (i : ℕ) (m : ℕ × En) → slice_get (marked a k h) i ≡ Some m → IsMarkAt a k h m
  mark_at a k [] i m is = absurd (cc is)
  mark_at a k (x ∷ xs) i m is = dite (ℕ_discrete a x.0)
      (λ e. mark_here a k x xs (marked a (suc k) xs) i m e (mark_at a (suc k) xs) (ap (λ ms. slice_get ms i) (sym (marked_hit a k x xs e)) ∙ is))
      (λ n. further a k x xs m (mark_at a (suc k) xs i m (ap (λ ms. slice_get ms i) (sym (marked_miss a k x xs n)) ∙ is)))

  -- what stands in the history is marked
  abbrev HasMark : ℕ → ℕ → Log En → ℕ → En → Type 0
  HasMark a k h t e = (i : ℕ) × (slice_get (marked a k h) i ≡ Some (t, e))

  mark_after : (a k : ℕ) (x : ℕ × En) (xs : Log En) (t : ℕ) (e : En) → HasMark a (suc k) xs t e → HasMark a k (x ∷ xs) t e
  mark_after a k x xs t e (i, is) = dite (ℕ_discrete a x.0)
      (λ q. (suc i, ap (λ ms. slice_get ms (suc i)) (marked_hit a k x xs q) ∙ is))
      (λ n. (i, ap (λ ms. slice_get ms i) (marked_miss a k x xs n) ∙ is))

  pub mark_has : (a k : ℕ) (h : Log En) (j : ℕ) (e : En) → slice_get h j ≡ Some (a, e) → HasMark a k h (k + j) e
  mark_has a k [] j e is = absurd (cc is)
  mark_has a k (x ∷ xs) zero e is =
      let same : x ≡ (a, e) = same_Some x (a, e) is in
      (0, ap (λ ms. slice_get ms 0) (marked_hit a k x xs (sym (ap (λ z. z.0) same))) ∙ ap₂ (λ p q. Some (p, q)) (omega arith) (ap (λ z. z.1) same))
  mark_has a k (x ∷ xs) (suc j) e is = subst (λ t. HasMark a k (x ∷ xs) t e) (omega arith) (mark_after a k x xs (suc k + j) e (mark_has a (suc k) xs j e is))

  -- no two marks are of one place
  abbrev IsOnce : List (ℕ × En) → Type 0
  IsOnce ms = (i j : ℕ) (m n : ℕ × En) → slice_get ms i ≡ Some m → slice_get ms j ≡ Some n → m.0 ≡ n.0 → i ≡ j

  once_more : (k : ℕ) (e : En) (ms : List (ℕ × En)) → ((i : ℕ) (m : ℕ × En) → slice_get ms i ≡ Some m → k < m.0) → IsOnce ms → IsOnce ((k, e) ∷ ms)
  once_more k e ms above once zero zero m n p q same = refl
  once_more k e ms above once zero (suc j) m n p q same =
      absurd (let a = above j n q in let b = ap (λ (z : ℕ × En). z.0) (same_Some (k, e) m p) in omega (arith, a, b, same))
  once_more k e ms above once (suc i) zero m n p q same =
      absurd (let a = above i m p in let b = ap (λ (z : ℕ × En). z.0) (same_Some (k, e) n q) in omega (arith, a, b, same))
  once_more k e ms above once (suc i) (suc j) m n p q same = ap suc (once i j m n p q same)

  pub mark_once : (a k : ℕ) (h : Log En) → IsOnce (marked a k h)
  mark_once a k [] = λ i j m n p q same. absurd (cc p)
  mark_once a k (x ∷ xs) = dite (ℕ_discrete a x.0)
      (λ e. subst IsOnce (sym (marked_hit a k x xs e))
      (once_more k x.1 (marked a (suc k) xs) (λ i m is. let at = mark_at a (suc k) xs i m is in let p = at.1 in omega (arith, p)) (mark_once a (suc k) xs)))
      (λ n. subst IsOnce (sym (marked_miss a k x xs n)) (mark_once a (suc k) xs))
