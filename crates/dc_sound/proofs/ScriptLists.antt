-- The places of commands and raises in a script.
use Rattle.std.proofs.Common.{◌≡◌, ◌⊎◌, ℕ, zero, suc, ◌+◌, ◌≤◌, ◌<◌, List, [], ◌∷◌, Bool, true, false, Some, refl, sym, ap, ◌∙◌, inl, inr, arith, length}
use Rattle.std.specs.Prelude.{slice_get, nat_le, not, if◌then◌else◌}
use Rattle.std.proofs.lemmas.Bool.Decides.{nat_tests}
use Rattle.std.proofs.lemmas.List.Sums.{sum_by-cons}
use Rattle.dc_base.specs.declared.commands.ScriptLine.{ScriptLine}
use Rattle.dc_base.specs.declared.commands.ScriptLine.TheVariants as line
use Rattle.dc_base.specs.Script.{is_command, command_from, next_command, raise_from}
use Rattle.dc_base.specs.ScriptForm.{raise_lines}

-- the place that is found, counting the first line of the list as n
pub record FoundFrom (q n : ℕ) (ls : List ScriptLine) (p : ℕ) : Type 0 where
  pub least : n ≤ p
  pub most : p ≤ n + length ls
  pub later : q ≤ n + length ls → q ≤ p
  -- it is the first command at q or later
  pub first : (j : ℕ) (l : ScriptLine) → slice_get ls j ≡ Some l → is_command l ≡ true → q ≤ n + j → p ≤ n + j
  pub is : (j : ℕ) (l : ScriptLine) → slice_get ls j ≡ Some l → p ≡ n + j → is_command l ≡ true

found_here : (q n : ℕ) (l : ScriptLine) (ls : List ScriptLine) → q ≤ n → is_command l ≡ true → FoundFrom q n (l ∷ ls) n
found_here q n l ls h c = record { least = omega arith; most = omega arith; later = λ k. h; first = λ j m e d k. omega arith; is = is_by }
  where
    is_by : (j : ℕ) (m : ScriptLine) → slice_get (l ∷ ls) j ≡ Some m → n ≡ n + j → is_command m ≡ true
    is_by zero m e p = let same : l ≡ m = cc in ap is_command (sym same) ∙ c
    is_by (suc j) m e p = absurd (omega (arith, p))

found_later : (q n : ℕ) (l : ScriptLine) (ls : List ScriptLine) (p : ℕ) → (is_command l ≡ true → q ≤ n → ⊥) → FoundFrom q (n + 1) ls p → FoundFrom q n (l ∷ ls) p
found_later q n l ls p h f = record {
  least = let a = f.least in omega (arith, a);
  most = let a = f.most in omega (arith, a);
  later = λ k. f.later (omega (arith, k));
  first = first_by;
  is = is_by;
}
  where
    first_by : (j : ℕ) (m : ScriptLine) → slice_get (l ∷ ls) j ≡ Some m → is_command m ≡ true → q ≤ n + j → p ≤ n + j
    first_by zero m e c k = let same : m ≡ l = cc in absurd (h (ap is_command (sym same) ∙ c) (omega (arith, k)))
    first_by (suc j) m e c k = let a = f.first j m e c (omega (arith, k)) in omega (arith, a)

    is_by : (j : ℕ) (m : ScriptLine) → slice_get (l ∷ ls) j ≡ Some m → p ≡ n + j → is_command m ≡ true
    is_by zero m e k = let a = f.least in absurd (omega (arith, a, k))
    is_by (suc j) m e k = f.is j m e (omega (arith, k))

found_by : (q n : ℕ) (l : ScriptLine) (ls : List ScriptLine) → FoundFrom q (n + 1) ls (command_from q (n + 1) ls) → (t u : Bool) → nat_le q n ≡ t → is_command l ≡ u →
    FoundFrom q n (l ∷ ls) (if t then (if u then n else command_from q (n + 1) ls) else command_from q (n + 1) ls)
found_by q n l ls f true true a b = found_here q n l ls (grind (arith, nat_tests, a)) b
found_by q n l ls f true false a b = found_later q n l ls (command_from q (n + 1) ls) (λ c k. absurd cc) f
found_by q n l ls f false u a b = found_later q n l ls (command_from q (n + 1) ls) (λ c k. grind (arith, nat_tests, a, k)) f

pub found : (q n : ℕ) (ls : List ScriptLine) → FoundFrom q n ls (command_from q n ls)
found q n [] = record { least = omega arith; most = omega arith; later = λ k. omega (arith, k); first = λ j l e c k. absurd cc; is = λ j l e k. absurd cc }
found q n (l ∷ ls) = found_by q n l ls (found q (n + 1) ls) (nat_le q n) (is_command l) refl refl

pub next_found : (ls : List ScriptLine) (q : ℕ) → FoundFrom q 0 ls (next_command ls q)
next_found ls q = found q 0 ls

there_by : {A : Type 0} (xs : List A) (i : ℕ) → i < length xs → (x : A) × (slice_get xs i ≡ Some x)
there_by [] i h = absurd (omega arith)
there_by (x ∷ xs) zero h = (x, refl)
there_by (x ∷ xs) (suc i) h = there_by xs i (omega arith)

-- a place of a command, or the script's end, is the next command's
pub at_next : (ls : List ScriptLine) (p : ℕ) → p ≤ length ls → ((l : ScriptLine) → slice_get ls p ≡ Some l → is_command l ≡ true) → p ≡ next_command ls p
at_next ls p h c = by_end (same_or_less p (length ls) h)
  where
    same_or_less : (m n : ℕ) → m ≤ n → (m ≡ n) ⊎ (m < n)
    same_or_less zero zero k = inl refl
    same_or_less zero (suc n) k = inr (omega arith)
    same_or_less (suc m) zero k = absurd (omega arith)
    same_or_less (suc m) (suc n) k = elim (same_or_less m n (omega arith)) [ inl e ↦ inl (ap suc e) | inr e ↦ inr (omega (arith, e)) ]

    by_end : (p ≡ length ls) ⊎ (p < length ls) → p ≡ next_command ls p
    by_end (inl e) = let f = next_found ls p in let a = f.most in let b = f.later (omega (arith, h)) in omega (arith, a, b, e)
    by_end (inr k) =
        let t = there_by ls p k in
        let f = next_found ls p in
        let a = f.first p t.0 t.1 (c t.0 t.1) (omega arith) in
        let b = f.later (omega (arith, h)) in
        omega (arith, a, b)

-- the next command's place is its own next
pub next_is_next : (ls : List ScriptLine) (q : ℕ) → next_command ls q ≡ next_command ls (next_command ls q)
next_is_next ls q = let f = next_found ls q in at_next ls (next_command ls q) (let a = f.most in omega (arith, a)) (λ l e. f.is (next_command ls q) l e (omega arith))

-- raises

-- raise k stands at place r
pub record RaiseFrom (k n : ℕ) (ls : List ScriptLine) (r : ℕ) : Type 0 where
  pub j : ℕ
  pub place : r ≡ n + j
  pub l : ScriptLine
  pub raise_at : slice_get ls j ≡ Some l
  pub is_raise : is_command l ≡ false
  -- there are more than k raises
  pub within : k < raise_lines ls

raise_more : (k n : ℕ) (l : ScriptLine) (ls : List ScriptLine) (r m : ℕ) → RaiseFrom k (n + 1) ls r → m ≤ k + (if not (is_command l) then 1 else 0) → RaiseFrom m n (l ∷ ls) r
raise_more k n l ls r m f h = record {
  j = suc f.j;
  place = let a = f.place in omega (arith, a);
  l = f.l;
  raise_at = f.raise_at;
  is_raise = f.is_raise;
  within = let a = f.within in let b = sum_by-cons (λ (l : ScriptLine). if not (is_command l) then 1 else 0) l ls in omega (arith, a, b, h);
}

pub raise_found : (k n : ℕ) (ls : List ScriptLine) (r : ℕ) → raise_from k n ls ≡ Some r → RaiseFrom k n ls r
raise_found k n [] r e = absurd cc
raise_found zero n (line.Raise l ∷ ls) r e =
    let b = sum_by-cons (λ (l : ScriptLine). if not (is_command l) then 1 else 0) (line.Raise l) ls in
    let same : n ≡ r = cc in
    record { j = 0; place = omega (arith, same); l = line.Raise l; raise_at = refl; is_raise = refl; within = omega (arith, b) }
raise_found (suc k) n (line.Raise l ∷ ls) r e = raise_more k n (line.Raise l) ls r (suc k) (raise_found k (n + 1) ls r e) (omega arith)
raise_found zero n (line.Boot c ∷ ls) r e = raise_more zero n (line.Boot c) ls r zero (raise_found zero (n + 1) ls r e) (omega arith)
raise_found zero n (line.Route l c ∷ ls) r e = raise_more zero n (line.Route l c) ls r zero (raise_found zero (n + 1) ls r e) (omega arith)
raise_found zero n (line.Await b w m ∷ ls) r e = raise_more zero n (line.Await b w m) ls r zero (raise_found zero (n + 1) ls r e) (omega arith)
raise_found (suc k) n (line.Boot c ∷ ls) r e = raise_more (suc k) n (line.Boot c) ls r (suc k) (raise_found (suc k) (n + 1) ls r e) (omega arith)
raise_found (suc k) n (line.Route l c ∷ ls) r e = raise_more (suc k) n (line.Route l c) ls r (suc k) (raise_found (suc k) (n + 1) ls r e) (omega arith)
raise_found (suc k) n (line.Await b w m ∷ ls) r e = raise_more (suc k) n (line.Await b w m) ls r (suc k) (raise_found (suc k) (n + 1) ls r e) (omega arith)

-- the raise after another stands below it
pub raise_order : (k n : ℕ) (ls : List ScriptLine) (q r : ℕ) → raise_from k n ls ≡ Some q → raise_from (suc k) n ls ≡ Some r → q < r
raise_order k n [] q r e f = absurd cc
raise_order zero n (line.Raise l ∷ ls) q r e f = let a = raise_found zero (n + 1) ls r f in let p = a.place in let same : n ≡ q = cc in omega (arith, p, same)
raise_order (suc k) n (line.Raise l ∷ ls) q r e f = raise_order k (n + 1) ls q r e f
raise_order zero n (line.Boot c ∷ ls) q r e f = raise_order zero (n + 1) ls q r e f
raise_order zero n (line.Route l c ∷ ls) q r e f = raise_order zero (n + 1) ls q r e f
raise_order zero n (line.Await b w m ∷ ls) q r e f = raise_order zero (n + 1) ls q r e f
raise_order (suc k) n (line.Boot c ∷ ls) q r e f = raise_order (suc k) (n + 1) ls q r e f
raise_order (suc k) n (line.Route l c ∷ ls) q r e f = raise_order (suc k) (n + 1) ls q r e f
raise_order (suc k) n (line.Await b w m ∷ ls) q r e f = raise_order (suc k) (n + 1) ls q r e f
