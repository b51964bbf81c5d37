-- The digits of small numbers.
use Rattle.std.proofs.lemmas.Fmt.{decimal_digit, decimal_step_wide}
use Rattle.std.proofs.Common.{◌≡◌, ℕ, ◌+◌, ◌-◌, ◌/◌, ◌%◌, ◌<◌, ◌≤◌, [], ◌∷◌, ◌++◌, decimal, rules, lit<, ap, ◌∙◌, arith}

pub decimal_one : (n : ℕ) → n < 10 → decimal n ≡ (48 + n) ∷ []
decimal_one = decimal_digit

pub decimal_two : (n : ℕ) → 10 ≤ n → n < 16 → decimal n ≡ 49 ∷ (48 + (n - 10)) ∷ []
decimal_two n ten small =
    let front : n / 10 ≡ 1 = omega (arith, ten, small) in
    let back : n % 10 ≡ n - 10 = omega (arith, ten, small) in
    decimal_step_wide n ten (search (rules, small)) ∙ ap (λ d. decimal d ++ (48 + n % 10) ∷ []) front ∙ ap (λ ds. ds ++ (48 + n % 10) ∷ []) (decimal_digit 1 (lit< tt)) ∙ ap (λ d. 49 ∷ (48 + d) ∷ []) back
