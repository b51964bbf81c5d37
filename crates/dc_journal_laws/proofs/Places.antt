-- The places of commands and of raises in a script.
use Rattle.std.proofs.Common.{◌≡◌, ℕ, zero, suc, ◌+◌, ◌<◌, ◌≤◌, List, [], ◌∷◌, Bool, true, false, Option, Some, None, refl, sym, ap, ◌∙◌, arith, length}
use Rattle.std.specs.Prelude.{nat_le, nat_lt, if◌then◌else◌, slice_get}
use Rattle.std.proofs.lemmas.Bool.Decides.{nat_tests}
use Rattle.dc_base.specs.declared.numbers.LineNo.{LineNo}
use Rattle.dc_base.specs.declared.commands.ScriptLine.{ScriptLine}
use Rattle.dc_base.specs.declared.commands.ScriptLine.TheVariants as line
use Rattle.dc_base.specs.Script.{is_command, command_from, next_command, raise_from, next_raise}
use Rattle.dc_base.specs.Answers.{is_above}

-- the place found is no later than any command from q on, and no earlier than q
record FoundFrom (q n : ℕ) (ls : List ScriptLine) (p : ℕ) : Type 0 where
  least : n ≤ p
  later : q ≤ n + length ls → q ≤ p
  first : (j : ℕ) (l : ScriptLine) → slice_get ls j ≡ Some l → is_command l ≡ true → q ≤ n + j → p ≤ n + j

found_here : (q n : ℕ) (l : ScriptLine) (ls : List ScriptLine) → q ≤ n → FoundFrom q n (l ∷ ls) n
found_here q n l ls h = record { least = omega arith; later = λ k. h; first = λ j m e d k. omega arith }

found_later : (q n : ℕ) (l : ScriptLine) (ls : List ScriptLine) (p : ℕ) → (is_command l ≡ true → q ≤ n → ⊥) → FoundFrom q (n + 1) ls p → FoundFrom q n (l ∷ ls) p
found_later q n l ls p h f = record {
  least = let a = f.least in omega (arith, a);
  later = λ k. f.later (omega (arith, k));
  first = first_by;
}
  where
    first_by : (j : ℕ) (m : ScriptLine) → slice_get (l ∷ ls) j ≡ Some m → is_command m ≡ true → q ≤ n + j → p ≤ n + j
    first_by zero m e c k = let same : m ≡ l = cc in absurd (h (ap is_command (sym same) ∙ c) (omega (arith, k)))
    first_by (suc j) m e c k = let a = f.first j m e c (omega (arith, k)) in omega (arith, a)

found_by : (q n : ℕ) (l : ScriptLine) (ls : List ScriptLine) → FoundFrom q (n + 1) ls (command_from q (n + 1) ls) → (t u : Bool) → nat_le q n ≡ t → is_command l ≡ u →
    FoundFrom q n (l ∷ ls) (if t then (if u then n else command_from q (n + 1) ls) else command_from q (n + 1) ls)
found_by q n l ls f true true a b = found_here q n l ls (grind (arith, nat_tests, a))
found_by q n l ls f true false a b = found_later q n l ls (command_from q (n + 1) ls) (λ c k. absurd cc) f
found_by q n l ls f false u a b = found_later q n l ls (command_from q (n + 1) ls) (λ c k. grind (arith, nat_tests, a, k)) f

found : (q n : ℕ) (ls : List ScriptLine) → FoundFrom q n ls (command_from q n ls)
found q n [] = record { least = omega arith; later = λ k. omega (arith, k); first = λ j l e c k. absurd cc }
found q n (l ∷ ls) = found_by q n l ls (found q (n + 1) ls) (nat_le q n) (is_command l) refl refl

-- a command from q on is no earlier than the next command
pub next_first : (ls : List ScriptLine) (q j : ℕ) (l : ScriptLine) → slice_get ls j ≡ Some l → is_command l ≡ true → q ≤ j → next_command ls q ≤ j
next_first ls q j l e c h = let a = (found q 0 ls).first j l e c (omega (arith, h)) in omega (arith, a)

within : {A : Type 0} (xs : List A) (i : ℕ) (x : A) → slice_get xs i ≡ Some x → i < length xs
within [] i x h = absurd cc
within (y ∷ ys) zero x h = omega arith
within (y ∷ ys) (suc i) x h = let a = within ys i x h in omega (arith, a)

-- behind a line of the script the next command is later
pub next_later : (ls : List ScriptLine) (q : ℕ) (l : ScriptLine) → slice_get ls q ≡ Some l → q < next_command ls (q + 1)
next_later ls q l e = let n = within ls q l e in let a = (found (q + 1) 0 ls).later (omega (arith, n)) in omega (arith, a)

-- raises

raise_least : (k n : ℕ) (ls : List ScriptLine) (r : ℕ) → raise_from k n ls ≡ Some r → n ≤ r
raise_least k n [] r e = absurd cc
raise_least zero n (line.Raise l ∷ ls) r e = let same : n ≡ r = cc in omega (arith, same)
raise_least (suc k) n (line.Raise l ∷ ls) r e = let a = raise_least k (n + 1) ls r e in omega (arith, a)
raise_least zero n (line.Boot c ∷ ls) r e = let a = raise_least zero (n + 1) ls r e in omega (arith, a)
raise_least zero n (line.Route l c ∷ ls) r e = let a = raise_least zero (n + 1) ls r e in omega (arith, a)
raise_least zero n (line.Await b w m ∷ ls) r e = let a = raise_least zero (n + 1) ls r e in omega (arith, a)
raise_least (suc k) n (line.Boot c ∷ ls) r e = let a = raise_least (suc k) (n + 1) ls r e in omega (arith, a)
raise_least (suc k) n (line.Route l c ∷ ls) r e = let a = raise_least (suc k) (n + 1) ls r e in omega (arith, a)
raise_least (suc k) n (line.Await b w m ∷ ls) r e = let a = raise_least (suc k) (n + 1) ls r e in omega (arith, a)

-- raises ascend
raise_order : (j k n : ℕ) (ls : List ScriptLine) (p r : ℕ) → j < k → raise_from j n ls ≡ Some p → raise_from k n ls ≡ Some r → p < r
raise_order j k n [] p r h e f = absurd cc
raise_order j zero n (l ∷ ls) p r h e f = absurd (omega arith)
raise_order zero (suc k) n (line.Raise l ∷ ls) p r h e f = let same : n ≡ p = cc in let a = raise_least k (n + 1) ls r f in omega (arith, a, same)
raise_order (suc j) (suc k) n (line.Raise l ∷ ls) p r h e f = raise_order j k (n + 1) ls p r (omega arith) e f
raise_order zero (suc k) n (line.Boot c ∷ ls) p r h e f = raise_order zero (suc k) (n + 1) ls p r h e f
raise_order zero (suc k) n (line.Route l c ∷ ls) p r h e f = raise_order zero (suc k) (n + 1) ls p r h e f
raise_order zero (suc k) n (line.Await b w m ∷ ls) p r h e f = raise_order zero (suc k) (n + 1) ls p r h e f
raise_order (suc j) (suc k) n (line.Boot c ∷ ls) p r h e f = raise_order (suc j) (suc k) (n + 1) ls p r h e f
raise_order (suc j) (suc k) n (line.Route l c ∷ ls) p r h e f = raise_order (suc j) (suc k) (n + 1) ls p r h e f
raise_order (suc j) (suc k) n (line.Await b w m ∷ ls) p r h e f = raise_order (suc j) (suc k) (n + 1) ls p r h e f

pub next_raise-order : (ls : List ScriptLine) (j k p r : ℕ) → j < k → next_raise ls j ≡ Some p → next_raise ls k ≡ Some r → p < r
next_raise-order ls j k p r h e f = raise_order j k 0 ls p r h e f

-- each raise line is the place of some raise
counted : (n i : ℕ) (ls : List ScriptLine) (m : LineNo) → slice_get ls i ≡ Some (line.Raise m) → (k : ℕ) × (raise_from k n ls ≡ Some (n + i))
counted n i [] m e = absurd cc
counted n zero (line.Raise l ∷ ls) m e = (0, ap Some (omega arith))
counted n (suc i) (line.Raise l ∷ ls) m e = let a = counted (n + 1) i ls m e in (suc a.0, a.1 ∙ ap Some (omega arith))
counted n zero (line.Boot c ∷ ls) m e = absurd cc
counted n zero (line.Route l c ∷ ls) m e = absurd cc
counted n zero (line.Await b w k ∷ ls) m e = absurd cc
counted n (suc i) (line.Boot c ∷ ls) m e = let a = counted (n + 1) i ls m e in (a.0, skip a.0 a.1)
  where
    skip : (k : ℕ) → raise_from k (n + 1) ls ≡ Some (n + 1 + i) → raise_from k n (line.Boot c ∷ ls) ≡ Some (n + suc i)
    skip zero f = f ∙ ap Some (omega arith)
    skip (suc k) f = f ∙ ap Some (omega arith)
counted n (suc i) (line.Route l c ∷ ls) m e = let a = counted (n + 1) i ls m e in (a.0, skip a.0 a.1)
  where
    skip : (k : ℕ) → raise_from k (n + 1) ls ≡ Some (n + 1 + i) → raise_from k n (line.Route l c ∷ ls) ≡ Some (n + suc i)
    skip zero f = f ∙ ap Some (omega arith)
    skip (suc k) f = f ∙ ap Some (omega arith)
counted n (suc i) (line.Await b w t ∷ ls) m e = let a = counted (n + 1) i ls m e in (a.0, skip a.0 a.1)
  where
    skip : (k : ℕ) → raise_from k (n + 1) ls ≡ Some (n + 1 + i) → raise_from k n (line.Await b w t ∷ ls) ≡ Some (n + suc i)
    skip zero f = f ∙ ap Some (omega arith)
    skip (suc k) f = f ∙ ap Some (omega arith)

pub raise_counted : (ls : List ScriptLine) (r : ℕ) (m : LineNo) → slice_get ls r ≡ Some (line.Raise m) → (k : ℕ) × (next_raise ls k ≡ Some r)
raise_counted ls r m e = let a = counted 0 r ls m e in (a.0, a.1 ∙ ap Some (omega arith))

same_some : {A : Type 0} (o : Option A) (x y : A) → o ≡ Some x → o ≡ Some y → x ≡ y
same_some o x y h k = cc

-- where raise j is none, no later one is
raise_none : (j k n : ℕ) (ls : List ScriptLine) → j ≤ k → raise_from j n ls ≡ None → raise_from k n ls ≡ None
raise_none zero zero n ls h e = e
raise_none (suc j) zero n ls h e = absurd (omega arith)
raise_none j (suc k) n [] h e = refl
raise_none zero (suc k) n (line.Raise l ∷ ls) h e = absurd cc
raise_none (suc j) (suc k) n (line.Raise l ∷ ls) h e = raise_none j k (n + 1) ls (omega arith) e
raise_none zero (suc k) n (line.Boot c ∷ ls) h e = raise_none zero (suc k) (n + 1) ls h e
raise_none zero (suc k) n (line.Route l c ∷ ls) h e = raise_none zero (suc k) (n + 1) ls h e
raise_none zero (suc k) n (line.Await b w m ∷ ls) h e = raise_none zero (suc k) (n + 1) ls h e
raise_none (suc j) (suc k) n (line.Boot c ∷ ls) h e = raise_none (suc j) (suc k) (n + 1) ls h e
raise_none (suc j) (suc k) n (line.Route l c ∷ ls) h e = raise_none (suc j) (suc k) (n + 1) ls h e
raise_none (suc j) (suc k) n (line.Await b w m ∷ ls) h e = raise_none (suc j) (suc k) (n + 1) ls h e

pub next_none : (ls : List ScriptLine) (j k : ℕ) → j ≤ k → next_raise ls j ≡ None → next_raise ls k ≡ None
next_none ls j k h e = raise_none j k 0 ls h e

pub data Order3 (i j : ℕ) : Type 0 where
  is_less : i < j → Order3 i j
  is_equal : i ≡ j → Order3 i j
  is_more : j < i → Order3 i j

-- one number is less, equal or more
pub order3 : (i j : ℕ) → Order3 i j
order3 i j = go (nat_lt i j) (nat_lt j i) refl refl
  where
    go : (t u : Bool) → nat_lt i j ≡ t → nat_lt j i ≡ u → Order3 i j
    go true u a b = is_less (grind (arith, nat_tests, a))
    go false true a b = is_more (grind (arith, nat_tests, b))
    go false false a b = is_equal (grind (arith, nat_tests, a, b))

below_by : (ls : List ScriptLine) (k j q p : ℕ) (o : Option ℕ) → next_raise ls j ≡ o → is_above q o ≡ true → next_raise ls k ≡ Some p → p < q → Order3 k j → k < j
below_by ls k j q p o e above f h (is_less a) = a
below_by ls k j q p None e above f h (is_equal a) = let none : next_raise ls k ≡ None = ap (λ i. next_raise ls i) a ∙ e in absurd cc
below_by ls k j q p None e above f h (is_more a) = let none : next_raise ls k ≡ None = raise_none j k 0 ls (omega arith) e in absurd cc
below_by ls k j q p (Some r) e above f h (is_equal a) =
    let low : q < r = grind (arith, nat_tests, above) in
    let same : r ≡ p = same_some (next_raise ls k) r p (ap (λ i. next_raise ls i) a ∙ e) f in
    absurd (omega (arith, low, same))
below_by ls k j q p (Some r) e above f h (is_more a) =
    let low : q < r = grind (arith, nat_tests, above) in
    let high : r < p = raise_order j k 0 ls r p a e f in
    absurd (omega (arith, low, high))

-- a raise above q is one of the first j, where the next after these is not
pub raise_below : (ls : List ScriptLine) (j k q p : ℕ) → is_above q (next_raise ls j) ≡ true → next_raise ls k ≡ Some p → p < q → k < j
raise_below ls j k q p above f h = below_by ls k j q p (next_raise ls j) refl above f h (order3 k j)
