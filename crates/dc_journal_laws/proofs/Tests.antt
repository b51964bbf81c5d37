-- Tests on numbers and two tests together.
use Rattle.std.proofs.Common.{◌≡◌, ℕ, Bool, true, false, refl, rules, arith}
use Rattle.std.specs.Prelude.{◌==◌, ◌&&◌}

pub both : (p q : Bool) → (p && q) ≡ true → (p ≡ true) × (q ≡ true)
both true q h = (refl, h)
both false q h = absurd (let bad : false ≡ true = h in cc)

pub and_true : (p q : Bool) → p ≡ true → q ≡ true → (p && q) ≡ true
and_true true true h k = refl
and_true true false h k = k
and_true false q h k = h

pub numbers : (n m : ℕ) → n == m ≡ true → n ≡ m
numbers n m h = grind arith

pub same_number : (n m : ℕ) → n ≡ m → (n == m) ≡ true
same_number n m h = rw h same
  where
    same : (m == m) ≡ true
    same = search rules
