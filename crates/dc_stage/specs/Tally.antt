-- A scene of two numbers, for tests. An entry adds one to the number that it names.
use Rattle.std.proofs.Common.{◌≡◌, ◌≢◌, ℕ, ◌+◌, ◌==◌, ◌||◌, Bool, true, false, true≢false, cond, [], ◌∷◌, ap, sym, refl, ◌∙◌, eq-eqb, ne_eqb}
use native.Mathlib.Nat.{add-zero}
use mathlib.Core.Logic.{dite}
use native.Mathlib.Decide.{ℕ_discrete}
use Rattle.dc_stage.specs.History.{Meaning, Untouched, IsLocal}

abbrev pub number : ℕ × ℕ → ℕ → ℕ
number w i = cond (i == 0) w.0 (cond (i == 1) w.1 0)

-- one where the entry names this number
abbrev pub one_at : ℕ → ℕ → ℕ
one_at k named = cond (named == k) 1 0

-- the numbers after an entry that names one
abbrev pub added : ℕ × ℕ → ℕ → ℕ × ℕ
added w named = (w.0 + one_at 0 named, w.1 + one_at 1 named)

-- both numbers are 0 at the start, and an entry touches the one that it names
abbrev pub tally : {En : Type 0} → (En → ℕ) → Meaning (ℕ × ℕ) ℕ En
tally named = record { start = (0, 0); at = number; touched = λ w by e. named e ∷ []; lawful = λ w by e. Unit {0}; next = λ w by e. added w (named e) }

-- how much is added to the number i
unfoldable pub gain : ℕ → ℕ → ℕ
gain i named = cond (i == 0) (one_at 0 named) (cond (i == 1) (one_at 1 named) 0)

spread : (a b : Bool) (x y g h : ℕ) → cond a (x + g) (cond b (y + h) 0) ≡ cond a x (cond b y 0) + cond a g (cond b h 0)
spread true b x y g h = refl
spread false true x y g h = refl
spread false false x y g h = refl

pub number-added : (w : ℕ × ℕ) (i named : ℕ) → number (added w named) i ≡ number w i + gain i named
unfolding gain
number-added w i named = spread (i == 0) (i == 1) w.0 w.1 (one_at 0 named) (one_at 1 named)

no_gain : (i named : ℕ) → i ≢ named → gain i named ≡ 0
unfolding gain
no_gain i named n = dite (ℕ_discrete i 0)
    (λ z. ap (λ b. cond b (one_at 0 named) (cond (i == 1) (one_at 1 named) 0)) (eq-eqb i 0 z)
    ∙ ap (λ b. cond {A = ℕ} b 1 0) (ne_eqb named 0 (λ h. n (z ∙ sym h))))
    (λ nz. ap (λ b. cond b (one_at 0 named) (cond (i == 1) (one_at 1 named) 0)) (ne_eqb i 0 nz) ∙ dite (ℕ_discrete i 1)
    (λ o. ap (λ b. cond b (one_at 1 named) 0) (eq-eqb i 1 o) ∙ ap (λ b. cond {A = ℕ} b 1 0) (ne_eqb named 1 (λ h. n (o ∙ sym h))))
    (λ no. ap (λ b. cond b (one_at 1 named) 0) (ne_eqb i 1 no)))

module _ {En : Type 0} (named : En → ℕ) where
  pub tally_untouched : Untouched (tally named)
  tally_untouched w by e i l out = number-added w i (named e)
      ∙ (ap (λ z. number w i + z) (no_gain i (named e) (λ h. true≢false (sym (ap (λ b. b || false) (eq-eqb i (named e) h)) ∙ out))) ∙ add-zero (number w i))

  pub tally_local : IsLocal (tally named)
  tally_local w v by e l same = (refl, tt, λ i h. number-added w i (named e) ∙ (ap (λ z. z + gain i (named e)) (same i h) ∙ sym (number-added v i (named e))))
