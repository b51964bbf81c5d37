-- A share has as many members as the told holders have blocks on its core.
use Rattle.std.proofs.Common.{◌≡◌, ℕ, zero, suc, ◌+◌, ◌<◌, ◌≤◌, List, [], ◌∷◌, Bool, true, false, Some, refl, sym, ap, ◌∙◌, subst, map, length, arith}
use Rattle.std.specs.Prelude.{slice_get, filter, not, ◌==◌, ◌||◌, if◌then◌else◌}
use Rattle.std.proofs.lemmas.Bool.Decides.{nat_tests}
use Rattle.std.proofs.lemmas.List.Sums.{length-filter}
use Rattle.std.proofs.lemmas.Bool.{or_right}
use Rattle.dc_base.specs.States.{State, Core, Block, Member, Whereabouts, rest, on}
use Rattle.dc_base.specs.Outcomes.{has, share_without}
use Rattle.dc_base.specs.Holders.{held_by}
use Rattle.dc_base.specs.Placed.{IsPlaced, IsShare, IsOn}
use Rattle.dc_base.specs.Telling.{with_holder, holders_from}
use Rattle.dc_refine.proofs.Places.{OnCore, on-has}
use Rattle.dc_refine.proofs.ChangedBlocks.{on_core, on_core-is, is-on_core}

-- how often a share lists a block
abbrev times_in : List Member → ℕ → ℕ
times_in share b = length (filter (λ (m : Member). m.block == b) share)

has_by : (m : Member) (ms : List Member) (t u : Bool) → (u ≡ true → 0 < length ms) → (t || u) ≡ true → 0 < length (if t then m ∷ ms else ms)
has_by m ms true u more h = omega arith
has_by m ms false u more h = more h

has-times : (share : List Member) (b : ℕ) → has share b ≡ true → 0 < times_in share b
has-times [] b h = cc
has-times (m ∷ ms) b h = has_by m (filter (λ (m : Member). m.block == b) ms) (m.block == b) (has ms b) (λ g. has-times ms b g) h

times_by : (m : Member) (ms : List Member) (t u : Bool) → (0 < length ms → u ≡ true) → 0 < length (if t then m ∷ ms else ms) → (t || u) ≡ true
times_by m ms true u more h = refl
times_by m ms false u more h = more h

times-has : (share : List Member) (b : ℕ) → 0 < times_in share b → has share b ≡ true
times-has [] b h = absurd (omega (arith, h))
times-has (m ∷ ms) b h = times_by m (filter (λ (m : Member). m.block == b) ms) (m.block == b) (has ms b) (λ g. times-has ms b g) h

-- with and without one block
split_by : (m : Member) (t : Bool) (us vs : List Member) (n : ℕ) → n ≡ length us + length vs → suc n ≡ length (if t then m ∷ us else us) + length (if not t then m ∷ vs else vs)
split_by m true us vs n h = omega (arith, h)
split_by m false us vs n h = omega (arith, h)

split : (share : List Member) (b : ℕ) → length share ≡ times_in share b + length (share_without b share)
split [] b = refl
split (m ∷ ms) b = split_by m (m.block == b) (filter (λ (m : Member). m.block == b) ms) (share_without b ms) (length ms) (split ms b)

fewer_by : (m : Member) (t u : Bool) (vs ws : List Member) → length vs ≤ length ws → length (if t then m ∷ vs else vs) ≤ length (if t then m ∷ ws else ws)
fewer_by m true u vs ws h = omega (arith, h)
fewer_by m false u vs ws h = h

dropped : (m : Member) (t : Bool) (vs ws : List Member) → length vs ≤ length ws → length vs ≤ length (if t then m ∷ ws else ws)
dropped m true vs ws h = omega (arith, h)
dropped m false vs ws h = h

times_without_by : (m : Member) (n b : ℕ) (ms : List Member) → times_in (share_without n ms) b ≤ times_in ms b → (t : Bool) → times_in (if not t then m ∷ share_without n ms else share_without n ms) b ≤ times_in (m ∷ ms) b
times_without_by m n b ms h true = dropped m (m.block == b) (filter (λ (m : Member). m.block == b) (share_without n ms)) (filter (λ (m : Member). m.block == b) ms) h
times_without_by m n b ms h false = fewer_by m (m.block == b) true (filter (λ (m : Member). m.block == b) (share_without n ms)) (filter (λ (m : Member). m.block == b) ms) h

times_without : (n b : ℕ) (share : List Member) → times_in (share_without n share) b ≤ times_in share b
times_without n b [] = omega arith
times_without n b (m ∷ ms) = times_without_by m n b ms (times_without n b ms) (m.block == n)

or_keeps : (t u v : Bool) → (u ≡ true → v ≡ true) → (t || u) ≡ true → (t || v) ≡ true
or_keeps true u v f h = refl
or_keeps false u v f h = f h

has_without_by : (m : Member) (n b : ℕ) (ms : List Member) → (has (share_without n ms) b ≡ true → has ms b ≡ true) → (t : Bool) → has (if not t then m ∷ share_without n ms else share_without n ms) b ≡ true → has (m ∷ ms) b ≡ true
has_without_by m n b ms more true h = or_right (m.block == b) (has ms b) (more h)
has_without_by m n b ms more false h = or_keeps (m.block == b) (has (share_without n ms) b) (has ms b) more h

pub has_without : (n b : ℕ) (share : List Member) → has (share_without n share) b ≡ true → has share b ≡ true
has_without n b [] h = h
has_without n b (m ∷ ms) h = has_without_by m n b ms (λ g. has_without n b ms g) (m.block == n) h

apart_by : (m : Member) (n b : ℕ) (ms : List Member) → b ≡ n → (has (share_without n ms) b ≡ true → ⊥) → (t : Bool) → (m.block == n) ≡ t → has (if not t then m ∷ share_without n ms else share_without n ms) b ≡ true → ⊥
apart_by m n b ms same more true e h = more h
apart_by m n b ms same more false e h =
    let f : (m.block == b) ≡ false = ap (λ v. m.block == v) same ∙ e in more (sym (ap (λ t. t || has (share_without n ms) b) f) ∙ h)

pub not_without : (n b : ℕ) (share : List Member) → b ≡ n → has (share_without n share) b ≡ true → ⊥
not_without n b [] same h = cc
not_without n b (m ∷ ms) same h = apart_by m n b ms same (λ g. not_without n b ms same g) (m.block == n) refl h

still_by : (m : Member) (n b : ℕ) (ms : List Member) → (b ≡ n → ⊥) → (has ms b ≡ true → has (share_without n ms) b ≡ true) → (t : Bool) → (m.block == n) ≡ t → has (m ∷ ms) b ≡ true → has (if not t then m ∷ share_without n ms else share_without n ms) b ≡ true
still_by m n b ms apart more true e h =
    let f : (m.block == b) ≡ false = (let g : m.block ≡ n = grind (arith, nat_tests, e) in let k : m.block ≡ b → ⊥ = (λ z. apart (sym z ∙ g)) in other m.block b k) in
    more (sym (ap (λ t. t || has ms b) f) ∙ h)
  where
    other : (i j : ℕ) → (i ≡ j → ⊥) → (i == j) ≡ false
    other i j h = grind (arith, nat_tests)
still_by m n b ms apart more false e h = or_keeps (m.block == b) (has ms b) (has (share_without n ms) b) more h

pub still_has : (n b : ℕ) (share : List Member) → (b ≡ n → ⊥) → has share b ≡ true → has (share_without n share) b ≡ true
still_has n b [] apart h = h
still_has n b (m ∷ ms) apart h = still_by m n b ms apart (λ g. still_has n b ms apart g) (m.block == n) refl h

-- a share that lists exactly the blocks of these that are on core c, each once
record IsShareOf (c n : ℕ) (xs : List Block) (share : List Member) : Type 0 where
  once : (b : ℕ) → times_in share b ≤ 1
  within : (b : ℕ) → has share b ≡ true → OnCore c n xs b
  all : (i : ℕ) (x : Block) → slice_get xs i ≡ Some x → IsOn c x.whereabouts → has share (n + i) ≡ true

none_listed : (c n : ℕ) (share : List Member) → IsShareOf c n [] share → length share ≡ 0
none_listed c n [] h = refl
none_listed c n (m ∷ ms) h =
    let f : (m.block == m.block) ≡ true = grind (arith, nat_tests) in
    let there = h.within m.block (ap (λ t. t || has ms m.block) f) in
    let e = there.there in cc

without_place : (c n b : ℕ) (x : Block) (xs : List Block) → (b ≡ n → ⊥) → (p : ℕ) (y : Block) → b ≡ n + p → slice_get (x ∷ xs) p ≡ Some y → IsOn c y.whereabouts → OnCore c (n + 1) xs b
without_place c n b x xs apart zero y e at is_on = absurd (apart (omega (arith, e)))
without_place c n b x xs apart (suc p) y e at is_on = record { place = p; block = y; number = omega (arith, e); there = at; is_on = is_on }

without_first : (c n : ℕ) (x : Block) (xs : List Block) (share : List Member) → IsShareOf c n (x ∷ xs) share → IsShareOf c (n + 1) xs (share_without n share)
without_first c n x xs share h = record {
  once = λ b. let a = times_without n b share in let d = h.once b in omega (arith, a, d);
  within = λ b g. let there = h.within b (has_without n b share g) in
      without_place c n b x xs (λ same. not_without n b share same g) there.place there.block there.number there.there there.is_on;
  all = λ i y at is_on. let g = h.all (suc i) y at is_on in let same : n + suc i ≡ n + 1 + i = omega arith in
      still_has n (n + 1 + i) share (λ e. omega (arith, e)) (subst (λ v. has share v ≡ true) same g);
}

first_count : (c n : ℕ) (x : Block) (xs : List Block) (share : List Member) → IsShareOf c n (x ∷ xs) share → (t : Bool) → on_core c x.whereabouts ≡ t → times_in share n ≡ (if t then 1 else 0)
first_count c n x xs share h true e =
    let a = h.once n in
    let g = h.all 0 x refl (on_core-is c x.whereabouts e) in
    let same : n + 0 ≡ n = omega arith in
    let b = has-times share n (subst (λ v. has share v ≡ true) same g) in omega (arith, a, b)
first_count c n x xs share h false e = by_times (times_in share n) refl
  where
    first_there : (p : ℕ) (y : Block) → n ≡ n + p → slice_get (x ∷ xs) p ≡ Some y → IsOn c y.whereabouts → IsOn c x.whereabouts
    first_there zero y f at is_on = let g : x ≡ y = cc in subst (λ (v : Block). IsOn c v.whereabouts) (sym g) is_on
    first_there (suc p) y f at is_on = absurd (omega (arith, f))

    by_times : (m : ℕ) → times_in share n ≡ m → m ≡ 0
    by_times zero f = refl
    by_times (suc m) f =
        let there = h.within n (times-has share n (omega (arith, f))) in
        let g = is-on_core c x.whereabouts (first_there there.place there.block there.number there.there there.is_on) in
        cc

held_count : (c n : ℕ) (w : Whereabouts) (ps : List (ℕ × ℕ)) → length (held_by c (with_holder n w ps)) ≡ (if on_core c w then 1 else 0) + length (held_by c ps)
held_count c n (rest kept) ps = omega arith
held_count c n (on d z v) ps = by_test (d == c)
  where
    by_test : (t : Bool) → length (map (λ (p : ℕ × ℕ). p.0) (if t then (n, d) ∷ filter (λ (p : ℕ × ℕ). p.1 == c) ps else filter (λ (p : ℕ × ℕ). p.1 == c) ps)) ≡ (if t then 1 else 0) + length (held_by c ps)
    by_test true = omega arith
    by_test false = omega arith

counted : (c n : ℕ) (xs : List Block) (share : List Member) → IsShareOf c n xs share → length share ≡ length (held_by c (holders_from n xs))
counted c n [] share h = none_listed c n share h
counted c n (x ∷ xs) share h =
    let a = split share n in
    let b = first_count c n x xs share h (on_core c x.whereabouts) refl in
    let d = counted c (n + 1) xs (share_without n share) (without_first c n x xs share h) in
    let e = held_count c n x.whereabouts (holders_from (n + 1) xs) in
    omega (arith, a, b, d, e)

-- the number of blocks that a core holds
pub share-held : (s : State) → IsPlaced s → (c : ℕ) (k : Core) → IsShare k → slice_get s.cores c ≡ Some k → length k.share ≡ length (held_by c (holders_from 0 s.blocks))
share-held s placed c k share core_at = counted c 0 s.blocks k.share (record {
  once = λ b. subst (λ n. n ≤ 1) (sym (length-filter (λ (m : Member). m.block == b) k.share)) (share.once b);
  within = λ b h. let found = placed.only c k core_at b h in record { place = b; block = found.0; number = omega arith; there = found.1; is_on = found.2 };
  all = λ i x at is_on. let same : i ≡ 0 + i = omega arith in subst (λ v. has k.share v ≡ true) same (on-has s placed i c k x at core_at is_on);
})
