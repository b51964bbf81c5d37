-- An entry of a tally adds one to the number that it names.
use Rattle.std.proofs.Common.{◌≡◌, ℕ, ◌+◌, ◌<◌, arith, ap, ◌∙◌}
use mathlib.Core.Logic.{dite}
use native.Mathlib.Decide.{ℕ_discrete}
use Rattle.dc_stage.specs.Tally.{number, added, gain, number-added}

pub adds_one : (w : ℕ × ℕ) (i : ℕ) → i < 2 → number (added w i) i ≡ number w i + 1
unfolding gain
adds_one w i lt = number-added w i i ∙ ap (λ z. number w i + z) (dite (ℕ_discrete i 0)
    (λ z. ap (λ k. gain k k) z)
    (λ n. ap (λ k. gain k k) (let o : i ≡ 1 = omega arith in o)))
