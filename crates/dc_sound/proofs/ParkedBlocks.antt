-- The home block and the parked blocks of a share without a block.
use Rattle.std.proofs.Common.{◌≡◌, ℕ, suc, ◌≤◌, ◌<◌, List, [], ◌∷◌, Bool, true, false, Option, Some, None, refl, sym, ap, ◌∙◌, subst, arith, length}
use Rattle.std.proofs.lemmas.Bool.Decides.{nat_tests}
use Rattle.std.proofs.lemmas.List.Sums.{sum_by-cons}
use Rattle.std.specs.Prelude.{◌==◌, ◌||◌, not, nat_lt, if◌then◌else◌, ⊤}
use Rattle.std.proofs.lemmas.Bool.{or_right}
use Rattle.dc_base.specs.Words.{with_number, without, is_number}
use Rattle.dc_base.specs.Outcomes.{share_without, has}
use Rattle.dc_base.specs.Placed.{homes_in, parked_in}
use Rattle.dc_base.specs.Progress.{parked_blocks, home_block}
use Rattle.dc_base.specs.States.{Member}
use Rattle.dc_block_sound.proofs.Elements.{same_is}
use Rattle.dc_sound.proofs.Registry.{home_none}

-- ascending lists

abbrev AtLeast : ℕ → List ℕ → Type 0
AtLeast k [] = ⊤
AtLeast k (n ∷ ns) = (k ≤ n) × AtLeast k ns

abbrev Ascends : List ℕ → Type 0
Ascends [] = ⊤
Ascends (n ∷ ns) = AtLeast n ns × Ascends ns

less_least : (j k : ℕ) (ns : List ℕ) → j ≤ k → AtLeast k ns → AtLeast j ns
less_least j k [] h a = tt
less_least j k (n ∷ ns) h a = (let b = a.0 in omega (arith, h, b), less_least j k ns h a.1)

least_put : (k n : ℕ) (ns : List ℕ) → k ≤ n → AtLeast k ns → AtLeast k (with_number n ns)
least_put k n [] h a = (h, tt)
least_put k n (m ∷ ms) h a = by_test (least_put k n ms h a.1) (nat_lt n m)
  where
    by_test : AtLeast k (with_number n ms) → (t : Bool) → AtLeast k (if t then n ∷ m ∷ ms else m ∷ with_number n ms)
    by_test more true = (h, a)
    by_test more false = (a.0, more)

ascends_put : (n : ℕ) (ns : List ℕ) → Ascends ns → Ascends (with_number n ns)
ascends_put n [] a = (tt, tt)
ascends_put n (m ∷ ms) a = by_test (ascends_put n ms a.1) (nat_lt n m) refl
  where
    by_test : Ascends (with_number n ms) → (t : Bool) → nat_lt n m ≡ t → Ascends (if t then n ∷ m ∷ ms else m ∷ with_number n ms)
    by_test more true q = let h : n ≤ m = grind (arith, nat_tests) in ((h, less_least n m ms h a.0), a)
    by_test more false q = let h : m ≤ n = grind (arith, nat_tests) in (least_put m n ms h a.0, more)

least_without : (k b : ℕ) (ns : List ℕ) → AtLeast k ns → AtLeast k (without b ns)
least_without k b [] a = tt
least_without k b (n ∷ ns) a = by_test (least_without k b ns a.1) (not (n == b))
  where
    by_test : AtLeast k (without b ns) → (t : Bool) → AtLeast k (if t then n ∷ without b ns else without b ns)
    by_test more true = (a.0, more)
    by_test more false = more

put_first : (n : ℕ) (ns : List ℕ) → AtLeast (suc n) ns → with_number n ns ≡ n ∷ ns
put_first n [] a = refl
put_first n (m ∷ ms) a = by_test (nat_lt n m) refl
  where
    by_test : (t : Bool) → nat_lt n m ≡ t → (if t then n ∷ m ∷ ms else m ∷ with_number n ms) ≡ n ∷ m ∷ ms
    by_test true q = refl
    by_test false q = let h = a.0 in absurd (grind (arith, nat_tests, h))

-- a number put into an ascending list, and another taken out
abbrev put_if : Bool → ℕ → List ℕ → List ℕ
put_if t n ns = if t then with_number n ns else ns

without_first : (b n m : ℕ) (ns : List ℕ) → AtLeast m ns → n < m → (t u : Bool) →
    (if not t then n ∷ (if not u then m ∷ ns else ns) else (if not u then m ∷ ns else ns)) ≡ put_if (not t) n (if not u then m ∷ ns else ns)
without_first b n m ns a h true u = refl
without_first b n m ns a h false true = sym (put_first n ns (less_least (suc n) m ns (omega arith) a))
without_first b n m ns a h false false = sym (put_first n (m ∷ ns) (omega arith, less_least (suc n) m ns (omega arith) a))

without_later : (n m : ℕ) (ns put : List ℕ) → nat_lt n m ≡ false → (t u : Bool) → put ≡ put_if (not t) n ns → (if not u then m ∷ put else put) ≡ put_if (not t) n (if not u then m ∷ ns else ns)
without_later n m ns put q true true more = more
without_later n m ns put q true false more = ap (λ l. m ∷ l) more
without_later n m ns put q false true more = more
without_later n m ns put q false false more = ap (λ l. m ∷ l) more ∙ sym (ap (λ (v : Bool). if v then n ∷ m ∷ ns else m ∷ with_number n ns) q)

without_by : (b n m : ℕ) (ms : List ℕ) → AtLeast m ms → without b (with_number n ms) ≡ put_if (not (n == b)) n (without b ms) → (v : Bool) → nat_lt n m ≡ v →
    without b (if v then n ∷ m ∷ ms else m ∷ with_number n ms) ≡ put_if (not (n == b)) n (without b (m ∷ ms))
without_by b n m ms a more true q = without_first b n m (without b ms) (least_without m b ms a) (grind (arith, nat_tests)) (n == b) (m == b)
without_by b n m ms a more false q = without_later n m (without b ms) (without b (with_number n ms)) q (n == b) (m == b) more

without_one : (n : ℕ) (t : Bool) → (if not t then n ∷ [] else []) ≡ put_if (not t) n []
without_one n true = refl
without_one n false = refl

without_put : (b n : ℕ) (ns : List ℕ) → Ascends ns → without b (with_number n ns) ≡ put_if (not (n == b)) n (without b ns)
without_put b n [] a = without_one n (n == b)
without_put b n (m ∷ ms) a = without_by b n m ms a.0 (without_put b n ms a.1) (nat_lt n m) refl

parked_ascend : (share : List Member) → Ascends (parked_blocks share)
parked_ascend [] = tt
parked_ascend (m ∷ ms) = by_parked (parked_ascend ms) m.parked
  where
    by_parked : Ascends (parked_blocks ms) → (t : Bool) → Ascends (if t then with_number m.block (parked_blocks ms) else parked_blocks ms)
    by_parked more true = ascends_put m.block (parked_blocks ms) more
    by_parked more false = more

left_by : (b : ℕ) (m : Member) (ms : List Member) → parked_blocks (share_without b ms) ≡ without b (parked_blocks ms) → (t p : Bool) → (m.block == b) ≡ t → m.parked ≡ p →
    parked_blocks (if not t then m ∷ share_without b ms else share_without b ms) ≡ without b (if p then with_number m.block (parked_blocks ms) else parked_blocks ms)
left_by b m ms more true true q r = more ∙ sym (without_put b m.block (parked_blocks ms) (parked_ascend ms) ∙ ap (λ t. put_if (not t) m.block (without b (parked_blocks ms))) q)
left_by b m ms more true false q r = more
left_by b m ms more false true q r =
    ap (λ (t : Bool). if t then with_number m.block (parked_blocks (share_without b ms)) else parked_blocks (share_without b ms)) r ∙ ap (with_number m.block) more
    ∙ sym (without_put b m.block (parked_blocks ms) (parked_ascend ms) ∙ ap (λ t. put_if (not t) m.block (without b (parked_blocks ms))) q)
left_by b m ms more false false q r = ap (λ (t : Bool). if t then with_number m.block (parked_blocks (share_without b ms)) else parked_blocks (share_without b ms)) r ∙ more

-- the parked blocks of a share without a block
pub parked_left : (b : ℕ) (share : List Member) → parked_blocks (share_without b share) ≡ without b (parked_blocks share)
parked_left b [] = refl
parked_left b (m ∷ ms) = left_by b m ms (parked_left b ms) (m.block == b) m.parked refl refl

-- its home block

abbrev one_home : Member → ℕ
one_home m = if not m.parked then 1 else 0

abbrev pub unless : ℕ → Option ℕ → Option ℕ
unless b home = if is_number b home then None else home

no_homes : (b : ℕ) (share : List Member) → homes_in share ≡ 0 → homes_in (share_without b share) ≡ 0
no_homes b [] h = h
no_homes b (m ∷ ms) h = by_test (no_homes b ms (let a = sum_by-cons one_home m ms in omega (arith, a, h))) (m.block == b)
  where
    by_test : homes_in (share_without b ms) ≡ 0 → (t : Bool) → homes_in (if not t then m ∷ share_without b ms else share_without b ms) ≡ 0
    by_test more true = more
    by_test more false = let a = sum_by-cons one_home m ms in let c = sum_by-cons one_home m (share_without b ms) in omega (arith, a, c, more, h)

home_by : (b : ℕ) (m : Member) (ms : List Member) → homes_in (m ∷ ms) ≤ 1 → (homes_in ms ≤ 1 → home_block (share_without b ms) ≡ unless b (home_block ms)) → (t p : Bool) → (m.block == b) ≡ t → m.parked ≡ p →
    home_block (if not t then m ∷ share_without b ms else share_without b ms) ≡ unless b (if p then home_block ms else Some m.block)
home_by b m ms h more true true q r = more (let a = sum_by-cons one_home m ms in omega (arith, a, h))
home_by b m ms h more true false q r =
    let a = sum_by-cons one_home m ms in
    let o : one_home m ≡ 1 = ap (λ (t : Bool). if not t then 1 else 0) r in
    home_none (share_without b ms) (no_homes b ms (omega (arith, a, o, h))) ∙ sym (ap (λ (t : Bool). if t then None else Some m.block) q)
home_by b m ms h more false true q r =
    ap (λ (t : Bool). if t then home_block (share_without b ms) else Some m.block) r ∙ more (let a = sum_by-cons one_home m ms in omega (arith, a, h))
home_by b m ms h more false false q r =
    ap (λ (t : Bool). if t then home_block (share_without b ms) else Some m.block) r ∙ sym (ap (λ (t : Bool). if t then None else Some m.block) q)

-- the home block of a share without a block
pub home_left : (b : ℕ) (share : List Member) → homes_in share ≤ 1 → home_block (share_without b share) ≡ unless b (home_block share)
home_left b [] h = refl
home_left b (m ∷ ms) h = home_by b m ms h (λ k. home_left b ms k) (m.block == b) m.parked refl refl

-- how many are parked

put_length : (n : ℕ) (ns : List ℕ) → length (with_number n ns) ≡ suc (length ns)
put_length n [] = refl
put_length n (m ∷ ms) = by_test (put_length n ms) (nat_lt n m)
  where
    by_test : length (with_number n ms) ≡ suc (length ms) → (t : Bool) → length (if t then n ∷ m ∷ ms else m ∷ with_number n ms) ≡ suc (length (m ∷ ms))
    by_test more true = refl
    by_test more false = ap suc more

abbrev one_parked : Member → ℕ
one_parked m = if m.parked then 1 else 0

pub parked_length : (share : List Member) → length (parked_blocks share) ≡ parked_in share
parked_length [] = refl
parked_length (m ∷ ms) = by_parked (parked_length ms) m.parked refl
  where
    by_parked : length (parked_blocks ms) ≡ parked_in ms → (t : Bool) → m.parked ≡ t → length (if t then with_number m.block (parked_blocks ms) else parked_blocks ms) ≡ parked_in (m ∷ ms)
    by_parked more true q =
        let a = sum_by-cons one_parked m ms in let o : one_parked m ≡ 1 = ap (λ (t : Bool). if t then 1 else 0) q in
        let b = put_length m.block (parked_blocks ms) in omega (arith, a, o, b, more)
    by_parked more false q =
        let a = sum_by-cons one_parked m ms in let o : one_parked m ≡ 0 = ap (λ (t : Bool). if t then 1 else 0) q in
        omega (arith, a, o, more)

pub without_length : (b : ℕ) (ns : List ℕ) → length (without b ns) ≤ length ns
without_length b [] = omega arith
without_length b (n ∷ ns) = by_test (without_length b ns) (not (n == b))
  where
    by_test : length (without b ns) ≤ length ns → (t : Bool) → length (if t then n ∷ without b ns else without b ns) ≤ length (n ∷ ns)
    by_test more true = omega (arith, more)
    by_test more false = omega (arith, more)

-- no home block: no home
pub homes_none : (share : List Member) → home_block share ≡ None → homes_in share ≡ 0
homes_none [] h = refl
homes_none (m ∷ ms) h = by_parked (λ k. homes_none ms k) m.parked refl h
  where
    by_parked : (home_block ms ≡ None → homes_in ms ≡ 0) → (t : Bool) → m.parked ≡ t → (if t then home_block ms else Some m.block) ≡ None → homes_in (m ∷ ms) ≡ 0
    by_parked more true q h = let a = sum_by-cons one_home m ms in let o : one_home m ≡ 0 = ap (λ (t : Bool). if not t then 1 else 0) q in let c = more h in omega (arith, a, o, c)
    by_parked more false q h = absurd cc

-- the home block is in the share
pub home_in : (share : List Member) (b : ℕ) → home_block share ≡ Some b → has share b ≡ true
home_in [] b h = absurd cc
home_in (m ∷ ms) b h = by_parked (λ k. home_in ms b k) m.parked h
  where
    by_parked : (home_block ms ≡ Some b → has ms b ≡ true) → (t : Bool) → (if t then home_block ms else Some m.block) ≡ Some b → ((m.block == b) || has ms b) ≡ true
    by_parked more true h = or_right (m.block == b) (has ms b) (more h)
    by_parked more false h = let same : m.block ≡ b = cc in ap (λ t. t || has ms b) (subst (λ n. (m.block == n) ≡ true) same (same_is m.block))
