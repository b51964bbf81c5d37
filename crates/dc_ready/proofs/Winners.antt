-- Which of two candidates is picked first.
use Rattle.std.proofs.Common.{◌≡◌, ℕ, Bool, true, false, cond, refl, inl, inr, arith}
use Rattle.std.specs.Prelude.{◌==◌, ◌||◌, ◌&&◌, nat_lt, Option, Some, None, ◌⊎◌}
use Rattle.std.proofs.lemmas.Bool.Decides.{nat_tests}
use Rattle.dc_ready.specs.Heaps.{is_before, winner}
use Rattle.dc_ready.specs.declared.heaps.Candidate.{Candidate}

never-itself : (a m : ℕ) → (nat_lt a a || (a == a && nat_lt m m)) ≡ false
never-itself a m = grind (arith, nat_tests)

never-both : (a m b n : ℕ) → (nat_lt b a || (b == a && nat_lt n m)) ≡ true → (nat_lt a b || (a == b && nat_lt m n)) ≡ false
never-both a m b n h = grind (arith, nat_tests)

goes-on : (a l b m c n : ℕ) → (nat_lt a b || (a == b && nat_lt l m)) ≡ false → (nat_lt b c || (b == c && nat_lt m n)) ≡ false → (nat_lt a c || (a == c && nat_lt l n)) ≡ false
goes-on a l b m c n h k = grind (arith, nat_tests)

pub same-number : (a m b n : ℕ) → (nat_lt a b || (a == b && nat_lt m n)) ≡ false → (nat_lt b a || (b == a && nat_lt n m)) ≡ false → m ≡ n
same-number a m b n h k = grind (arith, nat_tests)

-- o is not picked before r
abbrev pub IsNotBefore : Option Candidate → Option Candidate → Type 0
IsNotBefore None r = Unit {0}
IsNotBefore (Some b) None = ⊥
IsNotBefore (Some b) (Some a) = is_before b a ≡ false

not-itself : (o : Option Candidate) → IsNotBefore o o
not-itself None = tt
not-itself (Some a) = never-itself a.due a.number

pub not-before-more : (o p q : Option Candidate) → IsNotBefore o p → IsNotBefore p q → IsNotBefore o q
not-before-more None p q h k = tt
not-before-more (Some a) None q h k = absurd h
not-before-more (Some a) (Some b) None h k = absurd k
not-before-more (Some a) (Some b) (Some c) h k = goes-on a.due a.number b.due b.number c.due c.number h k

by_first : (a b : Candidate) (t : Bool) → is_before b a ≡ t → is_before a (cond t b a) ≡ false
by_first a b true h = never-both a.due a.number b.due b.number h
by_first a b false h = never-itself a.due a.number

by_second : (a b : Candidate) (t : Bool) → is_before b a ≡ t → is_before b (cond t b a) ≡ false
by_second a b true h = never-itself b.due b.number
by_second a b false h = h

pub winner-first : (a b : Option Candidate) → IsNotBefore a (winner a b)
winner-first None b = tt
winner-first (Some a) None = never-itself a.due a.number
winner-first (Some a) (Some b) = by_first a b (is_before b a) refl

pub winner-second : (a b : Option Candidate) → IsNotBefore b (winner a b)
winner-second None b = not-itself b
winner-second (Some a) None = tt
winner-second (Some a) (Some b) = by_second a b (is_before b a) refl

either : (a b : Candidate) (t : Bool) → (Some (cond t b a) ≡ Some a) ⊎ (Some (cond t b a) ≡ Some b)
either a b true = inr refl
either a b false = inl refl

-- the winner is one of the two
pub winner-either : (a b : Option Candidate) → (winner a b ≡ a) ⊎ (winner a b ≡ b)
winner-either None b = inr refl
winner-either (Some a) None = inl refl
winner-either (Some a) (Some b) = either a b (is_before b a)
