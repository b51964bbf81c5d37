-- The actors of passes that stand apart: each of a pass is among them, and stands there once.
use Rattle.std.proofs.Common.{◌≡◌, ℕ, zero, suc, ◌==◌, ◌||◌, Bool, true, false, true≢false, List, [], ◌∷◌, Some, sym, refl, ap, ◌∙◌, eq-eqb, ne_eqb}
use Rattle.std.specs.Prelude.{slice_get}
use Rattle.std.proofs.lemmas.Option.{same_Some}
use mathlib.Core.Logic.{dite}
use native.Mathlib.Decide.{ℕ_discrete}
use Rattle.dc_stage.specs.Numbers.{has, IsApart}
use Rattle.dc_stage.specs.Pasts.{actors_of}
use Rattle.dc_stage.specs.declared.view.Past.{Past}

module _ {En : Type 0} where
  has_there : (xs : List (Past En)) (i : ℕ) (x : Past En) → slice_get xs i ≡ Some x → has x.actor (actors_of xs) ≡ true
  has_there [] i x is = absurd (cc is)
  has_there (y ∷ xs) zero x is = ap (λ b. b || has x.actor (actors_of xs)) (eq-eqb x.actor y.actor (ap (λ (p : Past En). p.actor) (sym (same_Some y x is))))
  has_there (y ∷ xs) (suc i) x is = ap (λ b. (x.actor == y.actor) || b) (has_there xs i x is) ∙ or_true (x.actor == y.actor)
    where
      or_true : (b : Bool) → (b || true) ≡ true
      or_true true = refl
      or_true false = refl

  pub actor_once : (xs : List (Past En)) → IsApart (actors_of xs) → (i j : ℕ) (x y : Past En) → slice_get xs i ≡ Some x → slice_get xs j ≡ Some y
      → x.actor ≡ y.actor → i ≡ j
  actor_once [] apart i j x y p q same = absurd (cc p)
  actor_once (z ∷ xs) apart zero zero x y p q same = refl
  actor_once (z ∷ xs) apart zero (suc j) x y p q same =
      let actor = ap (λ (k : Past En). k.actor) (same_Some z x p) ∙ same in
      absurd (true≢false (sym (ap (λ a. has a (actors_of xs)) actor ∙ has_there xs j y q) ∙ apart.0))
  actor_once (z ∷ xs) apart (suc i) zero x y p q same =
      let actor = ap (λ (k : Past En). k.actor) (same_Some z y q) ∙ sym same in
      absurd (true≢false (sym (ap (λ a. has a (actors_of xs)) actor ∙ has_there xs i x p) ∙ apart.0))
  actor_once (z ∷ xs) apart (suc i) (suc j) x y p q same = ap suc (actor_once xs apart.1 i j x y p q same)

  pub has_actor : (xs : List (Past En)) (a : ℕ) → has a (actors_of xs) ≡ true → (i : ℕ) × (x : Past En) × (slice_get xs i ≡ Some x) × (x.actor ≡ a)
  has_actor [] a h = absurd (true≢false (sym h))
  has_actor (y ∷ xs) a h = dite (ℕ_discrete a y.actor)
      (λ e. (0, y, refl, sym e))
      (λ n. let r = has_actor xs a (ap (λ b. b || has a (actors_of xs)) (sym (ne_eqb a y.actor n)) ∙ h) in (suc r.0, r.1, r.2, r.3))
