-- Where entries stand among others, and which lines of a script are commands and raises.
use Rattle.std.proofs.Common.{◌≡◌, ℕ, zero, suc, ◌+◌, ◌<◌, ◌≤◌, List, [], ◌∷◌, ◌++◌, Bool, true, false, Option, Some, None, refl, sym, ap, ◌∙◌, arith}
use Rattle.std.specs.Prelude.{◌==◌, ◌||◌, not, nat_le, if◌then◌else◌, slice_get}
use Rattle.std.specs.List.{list_any}
use Rattle.dc_base.specs.declared.numbers.LineNo.{LineNo}
use Rattle.dc_base.specs.declared.interrupts.Raised.{Raised}
use Rattle.dc_base.specs.declared.commands.ScriptLine.{ScriptLine}
use Rattle.dc_base.specs.declared.commands.ScriptLine.TheVariants as line
use Rattle.dc_base.specs.declared.entries.Entry.{Entry}
use Rattle.dc_base.specs.declared.entries.What.{What}
use Rattle.dc_base.specs.declared.entries.What.TheVariants as what
use Rattle.dc_base.specs.Words.{is_number, lists}
use Rattle.dc_base.specs.Script.{is_command, command_from, next_command, raise_from, next_raise}
use Rattle.dc_journal_laws.specs.Entries.{command_line, answers, is_post, finishes, raise_in, raised}
use Rattle.dc_journal_laws.proofs.Tests.{both, numbers}
use Rattle.dc_journal_laws.proofs.Lists.{EachOf}
use Rattle.dc_journal_laws.proofs.Raises.{IsMade}

-- the place of one that passes the test
pub record Stands (p : Entry → Bool) (es : List Entry) : Type 0 where
  pub before : List Entry
  pub entry : Entry
  pub after : List Entry
  pub place : es ≡ before ++ entry ∷ after
  pub passes : p entry ≡ true

stands_by : (p : Entry → Bool) (e : Entry) (es : List Entry) (t : Bool) → p e ≡ t → (list_any p es ≡ true → Stands p es) → (t || list_any p es) ≡ true → Stands p (e ∷ es)
stands_by p e es true at more h = record { before = []; entry = e; after = es; place = refl; passes = at }
stands_by p e es false at more h = let s = more h in record { before = e ∷ s.before; entry = s.entry; after = s.after; place = ap (λ xs. e ∷ xs) s.place; passes = s.passes }

-- where one passes, it stands somewhere
pub stands : (p : Entry → Bool) (es : List Entry) → list_any p es ≡ true → Stands p es
stands p [] h = absurd (let bad : false ≡ true = h in cc)
stands p (e ∷ es) h = stands_by p e es (p e) refl (stands p es) h

number_of : (q : ℕ) (o : Option ℕ) → is_number q o ≡ true → o ≡ Some q
number_of q None h = absurd (let bad : false ≡ true = h in cc)
number_of q (Some m) h = ap Some (numbers m q h)

pub line_of : (q : ℕ) (e : Entry) → answers q e ≡ true → command_line e.what ≡ Some q
line_of q e h = number_of q (command_line e.what) h

pub line_of_last : (q : ℕ) (e : Entry) → finishes q e ≡ true → command_line e.what ≡ Some q
line_of_last q e h = line_of q e (both (answers q e) (not (is_post e.what)) h).0

-- commands

is_first_by : (q n : ℕ) (m : ScriptLine) (ls : List ScriptLine) (j : ℕ) (l : ScriptLine) (t u : Bool) → is_command m ≡ u → slice_get (m ∷ ls) j ≡ Some l →
    ((i : ℕ) → slice_get ls i ≡ Some l → command_from q (n + 1) ls ≡ n + 1 + i → is_command l ≡ true) → n + 1 ≤ command_from q (n + 1) ls →
    (if t then (if u then n else command_from q (n + 1) ls) else command_from q (n + 1) ls) ≡ n + j → is_command l ≡ true
is_first_by q n m ls zero l true true c e more low h = let same : m ≡ l = cc in ap is_command (sym same) ∙ c
is_first_by q n m ls (suc j) l true true c e more low h = absurd (omega (arith, h))
is_first_by q n m ls zero l true false c e more low h = absurd (omega (arith, h, low))
is_first_by q n m ls (suc j) l true false c e more low h = more j e (omega (arith, h))
is_first_by q n m ls zero l false u c e more low h = absurd (omega (arith, h, low))
is_first_by q n m ls (suc j) l false u c e more low h = more j e (omega (arith, h))

least_by : (q n : ℕ) (m : ScriptLine) (ls : List ScriptLine) (t u : Bool) → n + 1 ≤ command_from q (n + 1) ls → n ≤ (if t then (if u then n else command_from q (n + 1) ls) else command_from q (n + 1) ls)
least_by q n m ls true true h = omega arith
least_by q n m ls true false h = omega arith
least_by q n m ls false u h = omega arith

least : (q n : ℕ) (ls : List ScriptLine) → n ≤ command_from q n ls
least q n [] = omega arith
least q n (l ∷ ls) = least_by q n l ls (nat_le q n) (is_command l) (least q (n + 1) ls)

is_first : (q n : ℕ) (ls : List ScriptLine) (j : ℕ) (l : ScriptLine) → slice_get ls j ≡ Some l → command_from q n ls ≡ n + j → is_command l ≡ true
is_first q n [] j l e h = absurd cc
is_first q n (m ∷ ls) j l e h = is_first_by q n m ls j l (nat_le q n) (is_command m) refl e (λ i. is_first q (n + 1) ls i l) (least q (n + 1) ls) h

-- what stands at the place of a next command is one
pub next_is : (ls : List ScriptLine) (q : ℕ) (l : ScriptLine) → slice_get ls (next_command ls q) ≡ Some l → is_command l ≡ true
next_is ls q l e = is_first q 0 ls (next_command ls q) l e (omega arith)

pub there_above : {A : Type 0} (xs : List A) (i j : ℕ) (y : A) → slice_get xs j ≡ Some y → i < j → (x : A) × (slice_get xs i ≡ Some x)
there_above [] i j y e h = absurd cc
there_above (x ∷ xs) zero j y e h = (x, refl)
there_above (x ∷ xs) (suc i) zero y e h = absurd (omega arith)
there_above (x ∷ xs) (suc i) (suc j) y e h = there_above xs i j y e (omega arith)

-- raises

-- a raise line stands there
pub record RaiseAt (n : ℕ) (ls : List ScriptLine) (r : ℕ) : Type 0 where
  pub j : ℕ
  pub place : r ≡ n + j
  pub l : LineNo
  pub there : slice_get ls j ≡ Some (line.Raise l)

next_at : (n : ℕ) (m : ScriptLine) (ls : List ScriptLine) (r : ℕ) → RaiseAt (n + 1) ls r → RaiseAt n (m ∷ ls) r
next_at n m ls r f = record { j = suc f.j; place = (let a = f.place in omega (arith, a)); l = f.l; there = f.there }

raise_at : (k n : ℕ) (ls : List ScriptLine) (r : ℕ) → raise_from k n ls ≡ Some r → RaiseAt n ls r
raise_at k n [] r e = absurd cc
raise_at zero n (line.Raise l ∷ ls) r e = let same : n ≡ r = cc in record { j = 0; place = omega (arith, same); l = l; there = refl }
raise_at (suc k) n (line.Raise l ∷ ls) r e = next_at n (line.Raise l) ls r (raise_at k (n + 1) ls r e)
raise_at zero n (line.Boot c ∷ ls) r e = next_at n (line.Boot c) ls r (raise_at zero (n + 1) ls r e)
raise_at zero n (line.Route l c ∷ ls) r e = next_at n (line.Route l c) ls r (raise_at zero (n + 1) ls r e)
raise_at zero n (line.Await b w m ∷ ls) r e = next_at n (line.Await b w m) ls r (raise_at zero (n + 1) ls r e)
raise_at (suc k) n (line.Boot c ∷ ls) r e = next_at n (line.Boot c) ls r (raise_at (suc k) (n + 1) ls r e)
raise_at (suc k) n (line.Route l c ∷ ls) r e = next_at n (line.Route l c) ls r (raise_at (suc k) (n + 1) ls r e)
raise_at (suc k) n (line.Await b w m ∷ ls) r e = next_at n (line.Await b w m) ls r (raise_at (suc k) (n + 1) ls r e)

pub raise_line : (ls : List ScriptLine) (k r : ℕ) → next_raise ls k ≡ Some r → (l : LineNo) × (slice_get ls r ≡ Some (line.Raise l))
raise_line ls k r e = let f = raise_at k 0 ls r e in let p = f.place in let same : r ≡ f.j = omega (arith, p) in (f.l, ap (λ i. slice_get ls i) same ∙ f.there)

module _ (lines : List ScriptLine) (n : ℕ) where
  made_by : (w : What) (more : List ℕ) (r : ℕ) → ((p : ℕ) → raise_in w ≡ p ∷ [] → (k : ℕ) × (k < n) × (next_raise lines k ≡ Some p)) →
      (lists more r ≡ true → (k : ℕ) × (k < n) × (next_raise lines k ≡ Some r)) → lists (raise_in w ++ more) r ≡ true → (k : ℕ) × (k < n) × (next_raise lines k ≡ Some r)
  made_by (what.Raise q l x) more r here later h = go (q == r) refl h
    where
      go : (t : Bool) → (q == r) ≡ t → (t || lists more r) ≡ true → (k : ℕ) × (k < n) × (next_raise lines k ≡ Some r)
      go true at g = here r (ap (λ i. i ∷ []) (numbers q r at))
      go false at g = later g
  made_by w more r here later h = later h

  -- a raise that was made is one of the first n
  pub only_made : (es : List Entry) (r : ℕ) → EachOf (IsMade lines n) es → lists (raised es) r ≡ true → (k : ℕ) × (k < n) × (next_raise lines k ≡ Some r)
  only_made [] r each h = absurd (let bad : false ≡ true = h in cc)
  only_made (e ∷ es) r each h = made_by e.what (raised es) r each.0 (only_made es r each.1) h

-- the place of a raise
pub record RaiseStands (q : ℕ) (es : List Entry) : Type 0 where
  pub before : List Entry
  pub entry : Entry
  pub after : List Entry
  pub place : es ≡ before ++ entry ∷ after
  pub l : LineNo
  pub x : Raised
  pub is : entry.what ≡ what.Raise q l x

raise_behind : (q : ℕ) (e : Entry) (es : List Entry) → RaiseStands q es → RaiseStands q (e ∷ es)
raise_behind q e es s = record { before = e ∷ s.before; entry = s.entry; after = s.after; place = ap (λ xs. e ∷ xs) s.place; l = s.l; x = s.x; is = s.is }

raise_here : (q : ℕ) (e : Entry) (es : List Entry) (w : What) → e.what ≡ w → (lists (raised es) q ≡ true → RaiseStands q es) → lists (raise_in w ++ raised es) q ≡ true → RaiseStands q (e ∷ es)
raise_here q e es (what.Raise p l x) same more h = go (p == q) refl h
  where
    go : (t : Bool) → (p == q) ≡ t → (t || lists (raised es) q) ≡ true → RaiseStands q (e ∷ es)
    go true at g = record { before = []; entry = e; after = es; place = refl; l = l; x = x; is = same ∙ ap (λ i. what.Raise i l x) (numbers p q at) }
    go false at g = raise_behind q e es (more g)
raise_here q e es w same more h = raise_behind q e es (more h)

-- a raise that was made stands somewhere
pub raise_stands : (q : ℕ) (es : List Entry) → lists (raised es) q ≡ true → RaiseStands q es
raise_stands q [] h = absurd (let bad : false ≡ true = h in cc)
raise_stands q (e ∷ es) h = raise_here q e es e.what refl (raise_stands q es) h
