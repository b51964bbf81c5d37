-- The home and the parked blocks of a share with one block more or less.
use Rattle.std.proofs.Common.{◌≡◌, ℕ, ◌<◌, ◌≤◌, List, [], ◌∷◌, ◌++◌, length, Bool, true, false, Some, None, refl, sym, ap, ◌∙◌, subst, arith}
use Rattle.std.specs.Prelude.{filter, ◌==◌, not, nat_lt, if◌then◌else◌}
use Rattle.std.proofs.lemmas.Bool.Decides.{nat_tests}
use Rattle.std.proofs.lemmas.List.Sums.{length-filter}
use Rattle.dc_base.specs.Words.{with_number, without, is_number}
use Rattle.dc_base.specs.States.{Member}
use Rattle.dc_base.specs.Outcomes.{share_without}
use Rattle.dc_base.specs.Progress.{home_block, parked_blocks}
use Rattle.dc_base.specs.Placed.{homes_in}
use Rattle.dc_refine.proofs.Shares.{AllParked, all_parked, one_less, parked_behind, home_behind, put}

append_nil : {A : Type 0} (xs : List A) → xs ++ [] ≡ xs
append_nil [] = refl
append_nil (x ∷ xs) = ap (λ l. x ∷ l) (append_nil xs)

-- one more
pub parked_more : (share : List Member) (m : Member) → parked_blocks (share ++ m ∷ []) ≡ (if m.parked then with_number m.block (parked_blocks share) else parked_blocks share)
parked_more share m = parked_behind share [] m ∙ ap (λ l. put m.parked m.block (parked_blocks l)) (append_nil share)

pub home_parked : (share : List Member) (m : Member) → m.parked ≡ true → home_block (share ++ m ∷ []) ≡ home_block share
home_parked share m h = home_behind share [] m h ∙ ap home_block (append_nil share)

past_parked : (ms ys : List Member) → AllParked ms → home_block (ms ++ ys) ≡ home_block ys
past_parked [] ys h = refl
past_parked (m ∷ ms) ys h = ap (λ v. if v then home_block (ms ++ ys) else Some m.block) h.0 ∙ past_parked ms ys h.1

pub home_more : (share : List Member) (b : ℕ) → homes_in share ≡ 0 → home_block (share ++ record { block = b; parked = false } ∷ []) ≡ Some b
home_more share b h =
    let e = length-filter (λ (m : Member). not m.parked) share in
    past_parked share (record { block = b; parked = false } ∷ []) (all_parked share (omega (arith, e, h)))

-- one less: the home
none_home_by : (m : Member) (t : Bool) (xs : List Member) → m.parked ≡ true → home_block xs ≡ None → home_block (if t then m ∷ xs else xs) ≡ None
none_home_by m true xs p e = ap (λ v. if v then home_block xs else Some m.block) p ∙ e
none_home_by m false xs p e = e

none_home : (p : Member → Bool) (ms : List Member) → AllParked ms → home_block (filter p ms) ≡ None
none_home p [] h = refl
none_home p (m ∷ ms) h = none_home_by m (p m) (filter p ms) h.0 (none_home p ms h.1)

home_without_by : (b : ℕ) (m : Member) (ms : List Member) (p : Bool) → m.parked ≡ p → (p ≡ false → AllParked ms) → home_block (share_without b ms) ≡ (if is_number b (home_block ms) then None else home_block ms) → (t : Bool) → (m.block == b) ≡ t →
    home_block (if not t then m ∷ share_without b ms else share_without b ms) ≡ (if is_number b (if m.parked then home_block ms else Some m.block) then None else (if m.parked then home_block ms else Some m.block))
home_without_by b m ms true e all more true f = more ∙ ap (λ v. if is_number b (if v then home_block ms else Some m.block) then None else (if v then home_block ms else Some m.block)) (sym e)
home_without_by b m ms true e all more false f =
    ap (λ v. if v then home_block (share_without b ms) else Some m.block) e ∙ more ∙ ap (λ v. if is_number b (if v then home_block ms else Some m.block) then None else (if v then home_block ms else Some m.block)) (sym e)
home_without_by b m ms false e all more true f =
    none_home (λ (m : Member). not (m.block == b)) ms (all refl)
    ∙ ap (λ t. if t then None else Some m.block) (sym f)
    ∙ ap (λ v. if is_number b (if v then home_block ms else Some m.block) then None else (if v then home_block ms else Some m.block)) (sym e)
home_without_by b m ms false e all more false f =
    ap (λ v. if v then home_block (share_without b ms) else Some m.block) e
    ∙ ap (λ t. if t then None else Some m.block) (sym f)
    ∙ ap (λ v. if is_number b (if v then home_block ms else Some m.block) then None else (if v then home_block ms else Some m.block)) (sym e)

home_less : (b : ℕ) (ms : List Member) → length (filter (λ (m : Member). not m.parked) ms) ≤ 1 → home_block (share_without b ms) ≡ (if is_number b (home_block ms) then None else home_block ms)
home_less b [] h = refl
home_less b (m ∷ ms) h =
    let k = one_less m m.parked (filter (λ (m : Member). not m.parked) ms) refl h in
    home_without_by b m ms m.parked refl (λ f. all_parked ms (k.1 f)) (home_less b ms k.0) (m.block == b) refl

pub home_without : (b : ℕ) (share : List Member) → homes_in share ≤ 1 → home_block (share_without b share) ≡ (if is_number b (home_block share) then None else home_block share)
home_without b share h = home_less b share (subst (λ n. n ≤ 1) (sym (length-filter (λ (m : Member). not m.parked) share)) h)

-- one less: the parked blocks, which ascend
abbrev AtLeast : ℕ → List ℕ → Type 0
AtLeast m [] = Unit {0}
AtLeast m (n ∷ ns) = (m ≤ n) × AtLeast m ns

abbrev Ascending : List ℕ → Type 0
Ascending [] = Unit {0}
Ascending (n ∷ ns) = AtLeast n ns × Ascending ns

lower : (m n : ℕ) (ns : List ℕ) → m ≤ n → AtLeast n ns → AtLeast m ns
lower m n [] h g = tt
lower m n (k ∷ ns) h g = (let a = g.0 in omega (arith, a, h), lower m n ns h g.1)

put_least : (m n : ℕ) (ns : List ℕ) → m ≤ n → AtLeast m ns → AtLeast m (with_number n ns)
put_least m n [] h g = (h, tt)
put_least m n (k ∷ ns) h g = by_test (nat_lt n k) (put_least m n ns h g.1)
  where
    by_test : (t : Bool) → AtLeast m (with_number n ns) → AtLeast m (if t then n ∷ k ∷ ns else k ∷ with_number n ns)
    by_test true f = (h, (g.0, g.1))
    by_test false f = (g.0, f)

put_ascending_by : (n k : ℕ) (ns : List ℕ) → AtLeast k ns → Ascending ns → Ascending (with_number n ns) → (t : Bool) → nat_lt n k ≡ t → Ascending (if t then n ∷ k ∷ ns else k ∷ with_number n ns)
put_ascending_by n k ns a g f true e = let h : n < k = grind (arith, nat_tests, e) in ((omega arith, lower n k ns (omega arith) a), (a, g))
put_ascending_by n k ns a g f false e = let h : k ≤ n = grind (arith, nat_tests, e) in (put_least k n ns h a, f)

put_ascending : (n : ℕ) (ns : List ℕ) → Ascending ns → Ascending (with_number n ns)
put_ascending n [] h = (tt, tt)
put_ascending n (k ∷ ns) h = put_ascending_by n k ns h.0 h.1 (put_ascending n ns h.1) (nat_lt n k) refl

parked_ascending_by : (n : ℕ) (l : List ℕ) (t : Bool) → Ascending l → Ascending (if t then with_number n l else l)
parked_ascending_by n l true h = put_ascending n l h
parked_ascending_by n l false h = h

parked_ascending : (ms : List Member) → Ascending (parked_blocks ms)
parked_ascending [] = tt
parked_ascending (m ∷ ms) = parked_ascending_by m.block (parked_blocks ms) m.parked (parked_ascending ms)

-- a number below all others comes first
first_by : (m n : ℕ) (ns : List ℕ) → m < n → (t : Bool) → nat_lt m n ≡ t → (if t then m ∷ n ∷ ns else n ∷ with_number m ns) ≡ m ∷ n ∷ ns
first_by m n ns h true e = refl
first_by m n ns h false e = absurd (let g : n ≤ m = grind (arith, nat_tests, e) in omega arith)

abbrev Above : ℕ → List ℕ → Type 0
Above m [] = Unit {0}
Above m (n ∷ ns) = (m < n) × Above m ns

put_first : (m : ℕ) (ns : List ℕ) → Above m ns → with_number m ns ≡ m ∷ ns
put_first m [] h = refl
put_first m (n ∷ ns) h = first_by m n ns h.0 (nat_lt m n) refl

above_all : (m n : ℕ) (ns : List ℕ) → m < n → AtLeast n ns → Above m ns
above_all m n [] h g = tt
above_all m n (k ∷ ns) h g = (let a = g.0 in omega (arith, a, h), above_all m n ns h g.1)

above_without : (m b : ℕ) (ns : List ℕ) → Above m ns → Above m (without b ns)
above_without m b [] h = tt
above_without m b (n ∷ ns) h = by_test (n == b) (above_without m b ns h.1)
  where
    by_test : (t : Bool) → Above m (without b ns) → Above m (if not t then n ∷ without b ns else without b ns)
    by_test true g = g
    by_test false g = (h.0, g)

-- a number taken out of a list where another is put
abbrev Taken : ℕ → ℕ → List ℕ → Type 0
Taken b m l = without b (with_number m l) ≡ (if m == b then without b l else with_number m (without b l))

taken_first : (b m : ℕ) (l : List ℕ) → Above m l → (u : Bool) → (if not u then m ∷ without b l else without b l) ≡ (if u then without b l else with_number m (without b l))
taken_first b m l h true = refl
taken_first b m l h false = sym (put_first m (without b l) (above_without m b l h))

taken_later : (b m n : ℕ) (ns : List ℕ) → nat_lt m n ≡ false → Taken b m ns → (u v : Bool) → (m == b) ≡ u →
    (if not v then n ∷ without b (with_number m ns) else without b (with_number m ns)) ≡ (if u then (if not v then n ∷ without b ns else without b ns) else with_number m (if not v then n ∷ without b ns else without b ns))
taken_later b m n ns e more true true f = more ∙ ap (λ t. if t then without b ns else with_number m (without b ns)) f
taken_later b m n ns e more true false f = ap (λ l. n ∷ l) (more ∙ ap (λ t. if t then without b ns else with_number m (without b ns)) f)
taken_later b m n ns e more false true f = more ∙ ap (λ t. if t then without b ns else with_number m (without b ns)) f
taken_later b m n ns e more false false f =
    ap (λ l. n ∷ l) (more ∙ ap (λ t. if t then without b ns else with_number m (without b ns)) f)
    ∙ ap (λ t. if t then m ∷ n ∷ without b ns else n ∷ with_number m (without b ns)) (sym e)

taken_by : (b m n : ℕ) (ns : List ℕ) → AtLeast n ns → Taken b m ns → (t : Bool) → nat_lt m n ≡ t →
    without b (if t then m ∷ n ∷ ns else n ∷ with_number m ns) ≡ (if m == b then without b (n ∷ ns) else with_number m (without b (n ∷ ns)))
taken_by b m n ns a more true e = let h : m < n = grind (arith, nat_tests, e) in taken_first b m (n ∷ ns) (h, above_all m n ns h a) (m == b)
taken_by b m n ns a more false e = taken_later b m n ns e more (m == b) (n == b) refl

taken_nil : (b m : ℕ) (u : Bool) → (if not u then m ∷ [] else []) ≡ (if u then [] else m ∷ [])
taken_nil b m true = refl
taken_nil b m false = refl

taken : (b m : ℕ) (l : List ℕ) → Ascending l → Taken b m l
taken b m [] h = taken_nil b m (m == b)
taken b m (n ∷ ns) h = taken_by b m n ns h.0 (taken b m ns h.1) (nat_lt m n) refl

parked_without_by : (b : ℕ) (m : Member) (xs : List Member) (l : List ℕ) → Ascending l → parked_blocks xs ≡ without b l → (p t : Bool) → m.parked ≡ p → (m.block == b) ≡ t →
    parked_blocks (if not t then m ∷ xs else xs) ≡ without b (if p then with_number m.block l else l)
parked_without_by b m xs l h more true true e f = more ∙ ap (λ t. if t then without b l else with_number m.block (without b l)) (sym f) ∙ sym (taken b m.block l h)
parked_without_by b m xs l h more true false e f =
    ap (λ v. if v then with_number m.block (parked_blocks xs) else parked_blocks xs) e ∙ ap (with_number m.block) more
    ∙ ap (λ t. if t then without b l else with_number m.block (without b l)) (sym f) ∙ sym (taken b m.block l h)
parked_without_by b m xs l h more false true e f = more
parked_without_by b m xs l h more false false e f = ap (λ v. if v then with_number m.block (parked_blocks xs) else parked_blocks xs) e ∙ more

pub parked_without : (b : ℕ) (share : List Member) → parked_blocks (share_without b share) ≡ without b (parked_blocks share)
parked_without b [] = refl
parked_without b (m ∷ ms) = parked_without_by b m (share_without b ms) (parked_blocks ms) (parked_ascending ms) (parked_without b ms) m.parked (m.block == b) refl refl
