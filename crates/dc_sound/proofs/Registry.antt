-- The boot state of the cores and blocks after entries that are no orders.
use Rattle.std.proofs.Common.{◌≡◌, ℕ, ◌+◌, ◌≤◌, List, [], ◌∷◌, ◌++◌, Bool, true, false, Some, None, refl, sym, ap, ◌∙◌, subst, arith, map}
use Rattle.std.proofs.lemmas.Bool.Decides.{nat_tests}
use Rattle.std.proofs.lemmas.List.Sums.{sum_by-cons, sum_by-append}
use Rattle.std.specs.Prelude.{nat_lt, ◌==◌, not, if◌then◌else◌}
use Rattle.std.specs.List.{filter}
use Rattle.std.specs.Option.{option_map}
use Rattle.dc_base.specs.Outcomes.{share_with_last}
use Rattle.dc_base.specs.Placed.{homes_in}
use Rattle.dc_base.specs.Progress.{booted_of, parked_blocks, home_block, boot_of}
use Rattle.dc_base.specs.States.{core_in, State, Core, Block, Member}
use Rattle.dc_base.specs.SliceTurns.{core_after_slice}
use Rattle.dc_base.specs.Words.{with_number}

-- inserting in either order
insert_by : (m n k : ℕ) (ks : List ℕ) → with_number m (with_number n ks) ≡ with_number n (with_number m ks) → (a b c d : Bool) → nat_lt m k ≡ a → nat_lt n k ≡ b → nat_lt m n ≡ c → nat_lt n m ≡ d →
    with_number m (if b then n ∷ k ∷ ks else k ∷ with_number n ks) ≡ with_number n (if a then m ∷ k ∷ ks else k ∷ with_number m ks)
insert_by m n k ks h true true true true p q r t = absurd (grind (arith, nat_tests, r, t))
insert_by m n k ks h true true true false p q r t = rw (r, t) (rw q refl)
insert_by m n k ks h true true false true p q r t = rw (r, t) (rw p refl)
insert_by m n k ks h true true false false p q r t = let e : m ≡ n = grind (arith, nat_tests, r, t) in subst (λ j. with_number m (j ∷ k ∷ ks) ≡ with_number j (m ∷ k ∷ ks)) e refl
insert_by m n k ks h true false c d p q r t = let f : nat_lt n m ≡ false = grind (arith, nat_tests, p, q) in rw (p, f) (rw q refl)
insert_by m n k ks h false true c d p q r t = let f : nat_lt m n ≡ false = grind (arith, nat_tests, p, q) in rw (q, f) (rw p refl)
insert_by m n k ks h false false c d p q r t = rw (p, q) (ap (λ l. k ∷ l) h)

insert_one : (m n : ℕ) (a b : Bool) → nat_lt m n ≡ a → nat_lt n m ≡ b → (if a then m ∷ n ∷ [] else n ∷ m ∷ []) ≡ (if b then n ∷ m ∷ [] else m ∷ n ∷ [])
insert_one m n true true p q = absurd (grind (arith, nat_tests, p, q))
insert_one m n true false p q = refl
insert_one m n false true p q = refl
insert_one m n false false p q = let e : m ≡ n = grind (arith, nat_tests, p, q) in subst (λ j. j ∷ m ∷ [] ≡ m ∷ j ∷ []) e refl

pub insert_twice : (m n : ℕ) (ks : List ℕ) → with_number m (with_number n ks) ≡ with_number n (with_number m ks)
insert_twice m n [] = insert_one m n (nat_lt m n) (nat_lt n m) refl refl
insert_twice m n (k ∷ ks) = insert_by m n k ks (insert_twice m n ks) (nat_lt m k) (nat_lt n k) (nat_lt m n) (nat_lt n m) refl refl refl refl

-- one member more
abbrev put_parked : Bool → ℕ → List ℕ → List ℕ
put_parked t b ns = if t then with_number b ns else ns

put_twice : (t u : Bool) (b c : ℕ) (ns : List ℕ) → put_parked t b (put_parked u c ns) ≡ put_parked u c (put_parked t b ns)
put_twice true true b c ns = insert_twice b c ns
put_twice true false b c ns = refl
put_twice false u b c ns = refl

pub parked_middle : (xs : List Member) (m : Member) (ys : List Member) → parked_blocks (xs ++ m ∷ ys) ≡ put_parked m.parked m.block (parked_blocks (xs ++ ys))
parked_middle [] m ys = refl
parked_middle (x ∷ xs) m ys = ap (put_parked x.parked x.block) (parked_middle xs m ys) ∙ put_twice x.parked m.parked x.block m.block (parked_blocks (xs ++ ys))

module _ (q : Member → Bool) where
  parked_by : (m : Member) (ms : List Member) → parked_blocks (filter (λ y. not (q y)) ms ++ filter q ms) ≡ parked_blocks ms → (t : Bool) →
      parked_blocks ((if not t then m ∷ filter (λ y. not (q y)) ms else filter (λ y. not (q y)) ms) ++ (if t then m ∷ filter q ms else filter q ms)) ≡ put_parked m.parked m.block (parked_blocks ms)
  parked_by m ms h true = parked_middle (filter (λ y. not (q y)) ms) m (filter q ms) ∙ ap (put_parked m.parked m.block) h
  parked_by m ms h false = ap (put_parked m.parked m.block) h

  pub parked_parted : (ms : List Member) → parked_blocks (filter (λ y. not (q y)) ms ++ filter q ms) ≡ parked_blocks ms
  parked_parted [] = refl
  parked_parted (m ∷ ms) = parked_by m ms (parked_parted ms) (q m)

-- the home block

abbrev one_home : Member → ℕ
one_home m = if not m.parked then 1 else 0

none_by : (m : Member) (ms : List Member) → one_home m + homes_in ms ≡ 0 → (homes_in ms ≡ 0 → home_block ms ≡ None) → (t : Bool) → m.parked ≡ t → (if t then home_block ms else Some m.block) ≡ None
none_by m ms h more true e = more (omega (arith, h))
none_by m ms h more false e = let o : one_home m ≡ 1 = ap (λ (t : Bool). if not t then 1 else 0) e in absurd (omega (arith, o, h))

pub home_none : (ms : List Member) → homes_in ms ≡ 0 → home_block ms ≡ None
home_none [] h = refl
home_none (m ∷ ms) h = none_by m ms (sym (sum_by-cons one_home m ms) ∙ h) (λ k. home_none ms k) m.parked refl

-- one member of a list with at most one home, first or in the middle
middle_by : (xs : List Member) (m : Member) (ys : List Member) → homes_in (xs ++ m ∷ ys) ≤ 1 → (homes_in (xs ++ ys) ≤ 1 → home_block (xs ++ m ∷ ys) ≡ (if m.parked then home_block (xs ++ ys) else Some m.block)) →
    (x : Member) → (t : Bool) → x.parked ≡ t → one_home x + homes_in (xs ++ m ∷ ys) ≤ 1 →
    (if t then home_block (xs ++ m ∷ ys) else Some x.block) ≡ (if m.parked then (if t then home_block (xs ++ ys) else Some x.block) else Some m.block)
middle_by xs m ys l more x true e h = more (let a = sum_by-append one_home xs (m ∷ ys) in let b = sum_by-cons one_home m ys in let c = sum_by-append one_home xs ys in omega (arith, a, b, c, l))
middle_by xs m ys l more x false e h = by_parked m.parked refl
  where
    by_parked : (u : Bool) → m.parked ≡ u → Some x.block ≡ (if u then Some x.block else Some m.block)
    by_parked true g = refl
    by_parked false g =
        let a = sum_by-append one_home xs (m ∷ ys) in let b = sum_by-cons one_home m ys in
        let o : one_home m ≡ 1 = ap (λ (t : Bool). if not t then 1 else 0) g in let p : one_home x ≡ 1 = ap (λ (t : Bool). if not t then 1 else 0) e in
        absurd (omega (arith, a, b, o, p, h))

pub home_middle : (xs : List Member) (m : Member) (ys : List Member) → homes_in (xs ++ m ∷ ys) ≤ 1 → home_block (xs ++ m ∷ ys) ≡ (if m.parked then home_block (xs ++ ys) else Some m.block)
home_middle [] m ys h = refl
home_middle (x ∷ xs) m ys h =
    let a = sum_by-cons one_home x (xs ++ m ∷ ys) in
    middle_by xs m ys (omega (arith, a, h)) (λ k. home_middle xs m ys (omega (arith, a, h))) x x.parked refl (omega (arith, a, h))

module _ (q : Member → Bool) (sums : (ms : List Member) → homes_in (filter (λ y. not (q y)) ms ++ filter q ms) ≡ homes_in ms) where
  home_by : (m : Member) (ms : List Member) → homes_in (m ∷ ms) ≤ 1 → (homes_in ms ≤ 1 → home_block (filter (λ y. not (q y)) ms ++ filter q ms) ≡ home_block ms) → (t : Bool) →
      homes_in ((if not t then m ∷ filter (λ y. not (q y)) ms else filter (λ y. not (q y)) ms) ++ (if t then m ∷ filter q ms else filter q ms)) ≤ 1 →
      home_block ((if not t then m ∷ filter (λ y. not (q y)) ms else filter (λ y. not (q y)) ms) ++ (if t then m ∷ filter q ms else filter q ms)) ≡ (if m.parked then home_block ms else Some m.block)
  home_by m ms h more true k =
      let a = sum_by-cons one_home m ms in
      home_middle (filter (λ y. not (q y)) ms) m (filter q ms) k ∙ ap (λ o. if m.parked then o else Some m.block) (more (omega (arith, a, h)))
  home_by m ms h more false k = let a = sum_by-cons one_home m ms in ap (λ o. if m.parked then o else Some m.block) (more (omega (arith, a, h)))

  pub home_parted : (ms : List Member) → homes_in ms ≤ 1 → home_block (filter (λ y. not (q y)) ms ++ filter q ms) ≡ home_block ms
  home_parted [] h = refl
  home_parted (m ∷ ms) h = home_by m ms h (λ k. home_parted ms k) (q m) (let e = sums (m ∷ ms) in omega (arith, e, h))

-- a slice leaves the boot state of its core as it was
pub boot_turned : (k : Core) (b clock : ℕ) → ((ms : List Member) → homes_in (share_with_last b ms) ≡ homes_in ms) → homes_in k.share ≤ 1 → booted_of (core_after_slice k b clock) ≡ booted_of k
boot_turned k b clock sums h =
    ap (λ o. option_map (λ v. record { version = v; home = o; parked = parked_blocks (share_with_last b k.share) }) k.version) (home_parted (λ (m : Member). m.block == b) sums k.share h)
    ∙ ap (λ l. option_map (λ v. record { version = v; home = home_block k.share; parked = l }) k.version) (parked_parted (λ (m : Member). m.block == b) k.share)

-- the boot state, where one core and one block are read alike
pub boot_same : (s t : State) → map booted_of t.cores ≡ map booted_of s.cores → map (λ (x : Block). core_in x.whereabouts) t.blocks ≡ map (λ (x : Block). core_in x.whereabouts) s.blocks → boot_of t ≡ boot_of s
unfolding boot_of
boot_same s t h k = ap (λ l. record { cores = l; places = map (λ (x : Block). core_in x.whereabouts) t.blocks }) h ∙ ap (λ l. record { cores = map booted_of s.cores; places = l }) k
