-- How the counts of children change with the links.
use Rattle.std.proofs.Common.{◌≡◌, ℕ, zero, suc, ◌+◌, ◌<◌, ◌≤◌, List, [], ◌∷◌, Bool, true, false, refl, sym, ap, ◌∙◌, arith, length, map}
use Rattle.std.specs.Prelude.{slice_index_or, slice_set, ◌-◌, ◌==◌, if◌then◌else◌, replicate}
use Rattle.std.proofs.lemmas.List.{get_or-set_same, get_or-set_other}
use Rattle.dc_base.specs.Words.{count_of}
use Rattle.dc_mdb.specs.declared.links.Link.{Link}
use Rattle.dc_mdb.specs.declared.links.Link.TheVariants.{Absent, Root, Child}
use Rattle.dc_mdb.specs.Links.{with_link}
use Rattle.dc_mdb.specs.Counts.{is_child_of, child_count, IsCounted}
use Rattle.dc_mdb.proofs.Ranks.{count_most}
use Rattle.dc_mdb.proofs.Elements.{same_is, is_same, not_same}

-- nothing is there

no_children : (s n : ℕ) → child_count s (replicate n Absent) ≡ 0
no_children s zero = refl
no_children s (suc n) = ap (λ m. 0 + m) (no_children s n)

abbrev pub zeros : ℕ → List ℕ
zeros n = replicate n 0

no_numbers : (s n : ℕ) → slice_index_or (zeros n) s 0 ≡ 0
no_numbers s zero = refl
no_numbers zero (suc n) = refl
no_numbers (suc s) (suc n) = no_numbers s n

pub none_counted : (n : ℕ) → IsCounted (replicate n Absent) (zeros n)
none_counted n s = no_numbers s n ∙ sym (no_children s n)

-- no more children than slots

pub most_children : (s : ℕ) (links : List Link) → child_count s links ≤ length links
most_children s [] = omega arith
most_children s (l ∷ ls) = let a = count_most (is_child_of s l) in let b = most_children s ls in omega (arith, a, b)

-- a slot with a child has a place among the numbers
pub within_numbers : (xs : List ℕ) (p : ℕ) → 1 ≤ slice_index_or xs p 0 → p < length xs
within_numbers [] p h = absurd (omega (arith, h))
within_numbers (x ∷ xs) zero h = omega arith
within_numbers (x ∷ xs) (suc p) h = let l = within_numbers xs p h in omega (arith, l)

pub child_is_counted : (p s : ℕ) (links : List Link) → slice_index_or links s Absent ≡ Child p → 1 ≤ child_count p links
child_is_counted p s [] e = absurd cc
child_is_counted p zero (l ∷ ls) e = let q : count_of (is_child_of p l) ≡ 1 = ap (λ l. count_of (is_child_of p l)) e ∙ ap count_of (same_is p) in omega (arith, q)
child_is_counted p (suc s) (l ∷ ls) e = let l = child_is_counted p s ls e in omega (arith, l)

-- another link at one place
pub count_set : (p : ℕ) (links : List Link) (s : ℕ) (l : Link) → s < length links →
    child_count p (slice_set links s l) + count_of (is_child_of p (slice_index_or links s Absent)) ≡ child_count p links + count_of (is_child_of p l)
count_set p [] s l h = absurd (omega (arith, h))
count_set p (k ∷ ks) zero l h = omega arith
count_set p (k ∷ ks) (suc s) l h = let e = count_set p ks s l (omega (arith, h)) in omega (arith, e)

-- a number where it holds, and else 0
abbrev pub when : Bool → ℕ → ℕ
when t n = if t then n else 0

pub when_one : (t : Bool) → when t 1 ≡ count_of t
when_one true = refl
when_one false = refl

when_none : (t : Bool) → when t 0 ≡ 0
when_none true = refl
when_none false = refl

when_sum : (t : Bool) (m n : ℕ) → when t (m + n) ≡ when t m + when t n
when_sum true m n = refl
when_sum false m n = refl

-- a link to no slot counts for none
pub childless : (l : Link) → ((p : ℕ) → l ≡ Child p → ⊥) → (q : ℕ) → is_child_of q l ≡ false
childless Absent h q = refl
childless Root h q = refl
childless (Child p) h q = absurd (h p refl)

-- all children of a slot get another link

module _ (q s : ℕ) (up : Link) where
  moved_child : (p : ℕ) (t : Bool) → (p == s) ≡ t → count_of (is_child_of q (if t then up else Child p)) + when (s == q) (count_of t) ≡ count_of (p == q) + when (is_child_of q up) (count_of t)
  moved_child p true e =
      let a : count_of (p == q) ≡ count_of (s == q) = ap (λ n. count_of (n == q)) (is_same p s e) in
      let b = when_one (s == q) in let c = when_one (is_child_of q up) in omega (arith, a, b, c)
  moved_child p false e = let a = when_none (s == q) in let b = when_none (is_child_of q up) in omega (arith, a, b)

  moved_one : (l : Link) → count_of (is_child_of q (with_link s up l)) + when (s == q) (count_of (is_child_of s l)) ≡ count_of (is_child_of q l) + when (is_child_of q up) (count_of (is_child_of s l))
  moved_one Absent = let a = when_none (s == q) in let b = when_none (is_child_of q up) in omega (arith, a, b)
  moved_one Root = let a = when_none (s == q) in let b = when_none (is_child_of q up) in omega (arith, a, b)
  moved_one (Child p) = moved_child p (p == s) refl

  pub count_hung : (links : List Link) → child_count q (map (with_link s up) links) + when (s == q) (child_count s links) ≡ child_count q links + when (is_child_of q up) (child_count s links)
  count_hung [] = let a = when_none (s == q) in let b = when_none (is_child_of q up) in omega (arith, a, b)
  count_hung (l ∷ ls) =
      let a = moved_one l in let b = count_hung ls in
      let c = when_sum (s == q) (count_of (is_child_of s l)) (child_count s ls) in
      let d = when_sum (is_child_of q up) (count_of (is_child_of s l)) (child_count s ls) in omega (arith, a, b, c, d)

-- where a slot has no children, none moves
pub none_hung : (s : ℕ) (up : Link) (links : List Link) → child_count s links ≡ 0 → links ≡ map (with_link s up) links
none_hung s up [] h = refl
none_hung s up (Absent ∷ ls) h = ap (λ ls. Absent ∷ ls) (none_hung s up ls (omega (arith, h)))
none_hung s up (Root ∷ ls) h = ap (λ ls. Root ∷ ls) (none_hung s up ls (omega (arith, h)))
none_hung s up (Child p ∷ ls) h = by_test (p == s) h (λ e. none_hung s up ls e)
  where
    by_test : (t : Bool) → count_of t + child_count s ls ≡ 0 → (child_count s ls ≡ 0 → ls ≡ map (with_link s up) ls) → Child p ∷ ls ≡ (if t then up else Child p) ∷ map (with_link s up) ls
    by_test true h next = absurd (omega (arith, h))
    by_test false h next = ap (λ ls. Child p ∷ ls) (next (omega (arith, h)))

-- numbers at one place

module _ (xs : List ℕ) (i q : ℕ) (within : i < length xs) where
  set_is : (v : ℕ) (t : Bool) → (i == q) ≡ t → slice_index_or (slice_set xs i v) q 0 ≡ (if t then v else slice_index_or xs q 0)
  set_is v true e = ap (λ n. slice_index_or (slice_set xs i v) n 0) (sym (is_same i q e)) ∙ get_or-set_same xs i v 0 within
  set_is v false e = get_or-set_other xs i q v 0 (λ h. not_same i q e (sym h))

  pub raised : (n : ℕ) → slice_index_or (slice_set xs i (slice_index_or xs i 0 + n)) q 0 ≡ slice_index_or xs q 0 + when (i == q) n
  raised n = by_test (i == q) refl
    where
      by_test : (t : Bool) → (i == q) ≡ t → slice_index_or (slice_set xs i (slice_index_or xs i 0 + n)) q 0 ≡ slice_index_or xs q 0 + when t n
      by_test true e = set_is (slice_index_or xs i 0 + n) true e ∙ ap (λ m. slice_index_or xs m 0 + n) (is_same i q e)
      by_test false e = let a = set_is (slice_index_or xs i 0 + n) false e in omega (arith, a)

  pub lowered : (n : ℕ) → n ≤ slice_index_or xs i 0 → slice_index_or (slice_set xs i (slice_index_or xs i 0 - n)) q 0 + when (i == q) n ≡ slice_index_or xs q 0
  lowered n l = by_test (i == q) refl
    where
      by_test : (t : Bool) → (i == q) ≡ t → slice_index_or (slice_set xs i (slice_index_or xs i 0 - n)) q 0 + when t n ≡ slice_index_or xs q 0
      by_test true e = let a = set_is (slice_index_or xs i 0 - n) true e in let b : slice_index_or xs i 0 ≡ slice_index_or xs q 0 = ap (λ m. slice_index_or xs m 0) (is_same i q e) in omega (arith, a, b, l)
      by_test false e = let a = set_is (slice_index_or xs i 0 - n) false e in omega (arith, a)

  pub emptied : slice_index_or (slice_set xs i 0) q 0 + when (i == q) (slice_index_or xs i 0) ≡ slice_index_or xs q 0
  emptied = by_test (i == q) refl
    where
      by_test : (t : Bool) → (i == q) ≡ t → slice_index_or (slice_set xs i 0) q 0 + when t (slice_index_or xs i 0) ≡ slice_index_or xs q 0
      by_test true e = let a = set_is 0 true e in let b : slice_index_or xs i 0 ≡ slice_index_or xs q 0 = ap (λ m. slice_index_or xs m 0) (is_same i q e) in omega (arith, a, b)
      by_test false e = let a = set_is 0 false e in omega (arith, a)
