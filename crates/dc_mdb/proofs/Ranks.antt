-- How many slots have a rank below another.
use Rattle.std.proofs.Common.{◌≡◌, ℕ, zero, suc, ◌+◌, ◌<◌, ◌≤◌, List, [], ◌∷◌, Bool, true, false, Some, refl, sym, ap, subst, arith, length}
use Rattle.std.specs.Prelude.{slice_get, nat_lt}
use Rattle.std.proofs.lemmas.Bool.Decides.{nat_tests}
use Rattle.dc_base.specs.Words.{count_of}
use Rattle.dc_mdb.specs.Forests.{Node}

-- how many slots have a rank below r

abbrev pub below : (ℕ → ℕ) → ℕ → List Node → ℕ
below rank r [] = 0
below rank r (h ∷ hs) = count_of (nat_lt (rank h.0) r) + below rank r hs

count_more : (a r q : ℕ) → r ≤ q → count_of (nat_lt a r) ≤ count_of (nat_lt a q)
count_more a r q h = by_tests (nat_lt a r) (nat_lt a q) refl refl
  where
    by_tests : (t u : Bool) → nat_lt a r ≡ t → nat_lt a q ≡ u → count_of t ≤ count_of u
    by_tests false false e f = omega arith
    by_tests false true e f = omega arith
    by_tests true true e f = omega arith
    by_tests true false e f = absurd (let l : a < r = grind (arith, nat_tests, e) in let m : q ≤ a = grind (arith, nat_tests, f) in omega (arith, l, m, h))

pub count_most : (t : Bool) → count_of t ≤ 1
count_most true = omega arith
count_most false = omega arith

pub below_more : (rank : ℕ → ℕ) (r q : ℕ) (nodes : List Node) → r ≤ q → below rank r nodes ≤ below rank q nodes
below_more rank r q [] h = omega arith
below_more rank r q (k ∷ ks) h = let a = count_more (rank k.0) r q h in let b = below_more rank r q ks h in omega (arith, a, b)

count_yes : (a r : ℕ) → a < r → count_of (nat_lt a r) ≡ 1
count_yes a r h = ap count_of (let t : nat_lt a r ≡ true = grind (arith, nat_tests, h) in t)

count_no : (a r : ℕ) → r ≤ a → count_of (nat_lt a r) ≡ 0
count_no a r h = ap count_of (let t : nat_lt a r ≡ false = grind (arith, nat_tests, h) in t)

-- a slot with a rank between makes the count less
pub below_less : (rank : ℕ → ℕ) (r q : ℕ) (nodes : List Node) (g : Node) (i : ℕ) → slice_get nodes i ≡ Some g → r ≤ rank g.0 → rank g.0 < q → below rank r nodes + 1 ≤ below rank q nodes
below_less rank r q [] g i e h l = absurd cc
below_less rank r q (k ∷ ks) g zero e h l =
    let same : k ≡ g = cc in
    let a : count_of (nat_lt (rank k.0) r) ≡ 0 = subst (λ (v : Node). count_of (nat_lt (rank v.0) r) ≡ 0) (sym same) (count_no (rank g.0) r h) in
    let b : count_of (nat_lt (rank k.0) q) ≡ 1 = subst (λ (v : Node). count_of (nat_lt (rank v.0) q) ≡ 1) (sym same) (count_yes (rank g.0) q l) in
    let m = below_more rank r q ks (omega (arith, h, l)) in
    omega (arith, a, b, m)
below_less rank r q (k ∷ ks) g (suc i) e h l = let a = count_more (rank k.0) r q (omega (arith, h, l)) in let m = below_less rank r q ks g i e h l in omega (arith, a, m)

pub below_all : (rank : ℕ → ℕ) (r : ℕ) (nodes : List Node) → below rank r nodes ≤ length nodes
below_all rank r [] = omega arith
below_all rank r (k ∷ ks) = let a = count_most (nat_lt (rank k.0) r) in let m = below_all rank r ks in omega (arith, a, m)

pub below_some : (rank : ℕ → ℕ) (r : ℕ) (nodes : List Node) (g : Node) (i : ℕ) → slice_get nodes i ≡ Some g → r ≤ rank g.0 → below rank r nodes + 1 ≤ length nodes
below_some rank r nodes g i e h = let a = below_less rank r (rank g.0 + 1) nodes g i e h (omega arith) in let b = below_all rank (rank g.0 + 1) nodes in omega (arith, a, b)
