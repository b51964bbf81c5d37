-- The places of commands and raises from a place on.
use Rattle.std.proofs.Common.{IsSome, subst, ◌≡◌, ℕ, zero, suc, ◌+◌, ◌≤◌, ◌<◌, List, [], ◌∷◌, Bool, true, false, Option, Some, None, refl, sym, ap, ◌∙◌, arith, length, drop, get_or}
use Rattle.std.specs.Prelude.{nat_le, nat_lt, not, ◌&&◌, if◌then◌else◌}
use Rattle.std.proofs.lemmas.Bool.{lt-leb, le-leb}
use Rattle.std.proofs.lemmas.List.{drop_all, drop_more}
use Rattle.dc_base.specs.declared.commands.ScriptLine.{ScriptLine}
use Rattle.dc_base.specs.declared.commands.ScriptLine.TheVariants as line
use Rattle.dc_base.specs.Script.{is_command, command_from, next_command, raise_from, next_raise}
use Rattle.dc_objects.specs.Scripts.{raise_place_from, raise_place, within, IsScript}

-- the places before q are no matter
pub commands_before : (q k n : ℕ) (ls : List ScriptLine) → n + k ≤ q → k ≤ length ls → command_from q (n + k) (drop k ls) ≡ command_from q n ls
commands_before q zero n ls a b = ap (λ m. command_from q m ls) (omega arith)
commands_before q (suc k) n [] a b = absurd (omega (arith, b))
commands_before q (suc k) n (l ∷ ls) a b =
    ap (λ m. command_from q m (drop k ls)) (omega arith)
    ∙ commands_before q k (n + 1) ls (omega (arith, a)) (omega (arith, b))
    ∙ sym (ap (λ t. if t then (if is_command l then n else command_from q (n + 1) ls) else command_from q (n + 1) ls) (lt-leb q n (omega (arith, a))))

pub commands_from : (q : ℕ) (ls : List ScriptLine) → q ≤ length ls → command_from q q (drop q ls) ≡ command_from q 0 ls
commands_from q ls a = ap (λ m. command_from q m (drop q ls)) (omega arith) ∙ commands_before q q 0 ls (omega arith) a

pub no_command_past : (ls : List ScriptLine) → next_command ls (length ls + 1) ≡ length ls
no_command_past ls = sym (commands_before (length ls + 1) (length ls) 0 ls (omega arith) (omega arith)) ∙ ap (λ xs. command_from (length ls + 1) (0 + length ls) xs) (drop_all (length ls) ls (omega arith)) ∙ omega arith

pub command_here : (q : ℕ) (ls : List ScriptLine) (i : ℕ) (d : ScriptLine) → i < length ls → q ≤ i → is_command (get_or ls i d) ≡ true → command_from q i (drop i ls) ≡ i
command_here q ls i d h a e = ap (λ xs. command_from q i xs) (drop_more ls i d h)
    ∙ ap (λ t. if t then (if is_command (get_or ls i d) then i else command_from q (i + 1) (drop (i + 1) ls)) else command_from q (i + 1) (drop (i + 1) ls)) (le-leb q i a)
    ∙ ap (λ (t : Bool). if t then i else command_from q (i + 1) (drop (i + 1) ls)) e

pub command_later : (q : ℕ) (ls : List ScriptLine) (i : ℕ) (d : ScriptLine) → i < length ls → q ≤ i → is_command (get_or ls i d) ≡ false → command_from q i (drop i ls) ≡ command_from q (i + 1) (drop (i + 1) ls)
command_later q ls i d h a e = ap (λ xs. command_from q i xs) (drop_more ls i d h)
    ∙ ap (λ t. if t then (if is_command (get_or ls i d) then i else command_from q (i + 1) (drop (i + 1) ls)) else command_from q (i + 1) (drop (i + 1) ls)) (le-leb q i a)
    ∙ ap (λ (t : Bool). if t then i else command_from q (i + 1) (drop (i + 1) ls)) e

-- the same for raises
abbrev pub raise_if : Bool → Bool → ℕ → ℕ → ℕ
raise_if here command n later = if here && not command then n else later

pub raises_before : (q k n : ℕ) (ls : List ScriptLine) → n + k ≤ q → k ≤ length ls → raise_place_from q (n + k) (drop k ls) ≡ raise_place_from q n ls
raises_before q zero n ls a b = ap (λ m. raise_place_from q m ls) (omega arith)
raises_before q (suc k) n [] a b = absurd (omega (arith, b))
raises_before q (suc k) n (l ∷ ls) a b =
    ap (λ m. raise_place_from q m (drop k ls)) (omega arith)
    ∙ raises_before q k (n + 1) ls (omega (arith, a)) (omega (arith, b))
    ∙ sym (ap (λ t. raise_if t (is_command l) n (raise_place_from q (n + 1) ls)) (lt-leb q n (omega (arith, a))))

pub raises_from : (q : ℕ) (ls : List ScriptLine) → q ≤ length ls → raise_place_from q q (drop q ls) ≡ raise_place_from q 0 ls
raises_from q ls a = ap (λ m. raise_place_from q m (drop q ls)) (omega arith) ∙ raises_before q q 0 ls (omega arith) a

pub raise_here : (q : ℕ) (ls : List ScriptLine) (i : ℕ) (d : ScriptLine) → i < length ls → q ≤ i → is_command (get_or ls i d) ≡ false → raise_place_from q i (drop i ls) ≡ i
raise_here q ls i d h a e = ap (λ xs. raise_place_from q i xs) (drop_more ls i d h)
    ∙ ap (λ t. raise_if t (is_command (get_or ls i d)) i (raise_place_from q (i + 1) (drop (i + 1) ls))) (le-leb q i a)
    ∙ ap (λ t. raise_if true t i (raise_place_from q (i + 1) (drop (i + 1) ls))) e

pub raise_later : (q : ℕ) (ls : List ScriptLine) (i : ℕ) (d : ScriptLine) → i < length ls → q ≤ i → is_command (get_or ls i d) ≡ true → raise_place_from q i (drop i ls) ≡ raise_place_from q (i + 1) (drop (i + 1) ls)
raise_later q ls i d h a e = ap (λ xs. raise_place_from q i xs) (drop_more ls i d h)
    ∙ ap (λ t. raise_if t (is_command (get_or ls i d)) i (raise_place_from q (i + 1) (drop (i + 1) ls))) (le-leb q i a)
    ∙ ap (λ t. raise_if true t i (raise_place_from q (i + 1) (drop (i + 1) ls))) e

-- the place, where it is below m
abbrev pub below : ℕ → ℕ → Option ℕ
below m p = if nat_lt p m then Some p else None

no_raise : (t : Bool) (n p : ℕ) → p ≡ raise_if t true n p
no_raise true n p = refl
no_raise false n p = refl

-- a line that is no raise is passed by
passed : (q n : ℕ) (l : ScriptLine) (ls : List ScriptLine) → is_command l ≡ true → raise_place_from q (n + 1) ls ≡ raise_place_from q n (l ∷ ls)
passed q n l ls e = no_raise (nat_le q n) n (raise_place_from q (n + 1) ls) ∙ ap (λ t. raise_if (nat_le q n) t n (raise_place_from q (n + 1) ls)) (sym e)

-- a line before place q is passed by
too_early : (q n : ℕ) (l : ScriptLine) (ls : List ScriptLine) → n < q → raise_place_from q n (l ∷ ls) ≡ raise_place_from q (n + 1) ls
too_early q n l ls a = ap (λ t. raise_if t (is_command l) n (raise_place_from q (n + 1) ls)) (lt-leb q n a)

first_passed : (q n : ℕ) (l : ScriptLine) (ls : List ScriptLine) → is_command l ≡ true → raise_from zero (n + 1) ls ≡ below (n + 1 + length ls) (raise_place_from q (n + 1) ls) →
    raise_from zero (n + 1) ls ≡ below (n + suc (length ls)) (raise_place_from q n (l ∷ ls))
first_passed q n l ls e h = h ∙ ap (λ m. below m (raise_place_from q (n + 1) ls)) (omega arith) ∙ ap (λ p. below (n + suc (length ls)) p) (passed q n l ls e)

-- the first raise of a list, by its place
pub first_raise : (q n : ℕ) (ls : List ScriptLine) → q ≤ n → raise_from zero n ls ≡ below (n + length ls) (raise_place_from q n ls)
first_raise q n [] a = sym (ap (λ (t : Bool). if t then Some n else None) (lt-leb (suc n) (n + 0) (omega arith)))
first_raise q n (line.Raise l ∷ ls) a = sym (ap (λ t. below (n + suc (length ls)) (raise_if t false n (raise_place_from q (n + 1) ls))) (le-leb q n a)
    ∙ ap (λ (t : Bool). if t then Some n else None) (le-leb (suc n) (n + suc (length ls)) (omega arith)))
first_raise q n (line.Boot c ∷ ls) a = first_passed q n (line.Boot c) ls refl (first_raise q (n + 1) ls (omega (arith, a)))
first_raise q n (line.Route l c ∷ ls) a = first_passed q n (line.Route l c) ls refl (first_raise q (n + 1) ls (omega (arith, a)))
first_raise q n (line.Await b w m ∷ ls) a = first_passed q n (line.Await b w m) ls refl (first_raise q (n + 1) ls (omega (arith, a)))

pub record Follows (k n q : ℕ) (ls : List ScriptLine) : Type 0 where
  pub late : n ≤ q
  pub next : raise_from (suc k) n ls ≡ below (n + length ls) (raise_place_from (q + 1) n ls)

-- the raise that follows one in the rest of the list follows it in the whole
further : (k j n q : ℕ) (l : ScriptLine) (ls : List ScriptLine) → raise_from (suc j) n (l ∷ ls) ≡ raise_from (suc k) (n + 1) ls → Follows k (n + 1) q ls → Follows j n q (l ∷ ls)
further k j n q l ls e f = record {
  late = let a = f.late in omega (arith, a);
  next = e ∙ f.next ∙ ap (λ m. below m (raise_place_from (q + 1) (n + 1) ls)) (omega arith)
      ∙ ap (λ p. below (n + suc (length ls)) p) (sym (too_early (q + 1) n l ls (let a = f.late in omega (arith, a))));
}

pub raise_follows : (k n q : ℕ) (ls : List ScriptLine) → raise_from k n ls ≡ Some q → Follows k n q ls
raise_follows k n q [] e = absurd cc
raise_follows zero n q (line.Raise l ∷ ls) e = let same : n ≡ q = cc in record {
  late = omega (arith, same);
  next = first_raise (q + 1) (n + 1) ls (omega (arith, same)) ∙ ap (λ m. below m (raise_place_from (q + 1) (n + 1) ls)) (omega arith)
      ∙ ap (λ p. below (n + suc (length ls)) p) (sym (too_early (q + 1) n (line.Raise l) ls (omega (arith, same))));
}
raise_follows (suc k) n q (line.Raise l ∷ ls) e = further k (suc k) n q (line.Raise l) ls refl (raise_follows k (n + 1) q ls e)
raise_follows zero n q (line.Boot c ∷ ls) e = further zero zero n q (line.Boot c) ls refl (raise_follows zero (n + 1) q ls e)
raise_follows (suc k) n q (line.Boot c ∷ ls) e = further (suc k) (suc k) n q (line.Boot c) ls refl (raise_follows (suc k) (n + 1) q ls e)
raise_follows zero n q (line.Route l c ∷ ls) e = further zero zero n q (line.Route l c) ls refl (raise_follows zero (n + 1) q ls e)
raise_follows (suc k) n q (line.Route l c ∷ ls) e = further (suc k) (suc k) n q (line.Route l c) ls refl (raise_follows (suc k) (n + 1) q ls e)
raise_follows zero n q (line.Await b w m ∷ ls) e = further zero zero n q (line.Await b w m) ls refl (raise_follows zero (n + 1) q ls e)
raise_follows (suc k) n q (line.Await b w m ∷ ls) e = further (suc k) (suc k) n q (line.Await b w m) ls refl (raise_follows (suc k) (n + 1) q ls e)

pub next_raise_after : (ls : List ScriptLine) (k q : ℕ) → next_raise ls k ≡ Some q → next_raise ls (k + 1) ≡ within ls (raise_place ls (q + 1))
next_raise_after ls k q e = let f = raise_follows k 0 q ls e in ap (λ j. raise_from j 0 ls) (omega arith) ∙ f.next ∙ ap (λ m. below m (raise_place_from (q + 1) 0 ls)) (omega arith)

pub next_raise_first : (ls : List ScriptLine) → next_raise ls 0 ≡ within ls (raise_place ls 0)
next_raise_first ls = first_raise 0 0 ls (omega arith) ∙ ap (λ m. below m (raise_place_from 0 0 ls)) (omega arith)

some_by : (t : Bool) (q : ℕ) → IsSome (if t then Some q else None) → (if t then Some q else None) ≡ Some q
some_by true q h = refl
some_by false q h = absurd cc

-- after the next raise the script has the place of the one after it
pub raise_made : (lines : List ScriptLine) (at raises ahead new : ℕ) → IsScript lines at raises ahead → IsSome (next_raise lines raises) → new ≡ raise_place lines (ahead + 1) → new ≤ length lines → ahead + 1 ≤ new →
    IsScript lines at (raises + 1) new
raise_made lines at raises ahead new s h e within_lines past = record {
  most = s.most;
  place = s.place;
  raise = within_lines;
  next = next_raise_after lines raises ahead here ∙ ap (within lines) (sym e);
  count = let a = s.count in omega (arith, a, past);
}
  where
    here : next_raise lines raises ≡ Some ahead
    here = s.next ∙ some_by (nat_lt ahead (length lines)) ahead (subst (λ o. IsSome o) s.next h)
