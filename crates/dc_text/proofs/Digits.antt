-- Digits of numbers.
use Rattle.std.proofs.Common.{ℕ, ◌^◌, ◌<◌, ◌≤◌, length, decimal, arith, lit<}
use Rattle.std.proofs.lemmas.Fmt.{length-decimal-le}

pub len_8 : (n : ℕ) → n < 2 ^ 8 → length (decimal n) ≤ 3
len_8 n fits = length-decimal-le 3 n (lit< tt) (omega (arith, fits)) (omega (arith, fits))

pub len_32 : (n : ℕ) → n < 2 ^ 32 → length (decimal n) ≤ 10
len_32 n fits = length-decimal-le 10 n (lit< tt) (omega (arith, fits)) (omega (arith, fits))

pub len_64 : (n : ℕ) → n < 2 ^ 64 → length (decimal n) ≤ 20
len_64 n fits = length-decimal-le 20 n (lit< tt) (omega (arith, fits)) fits
