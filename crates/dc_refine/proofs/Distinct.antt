-- Lists of distinct numbers that have the same elements have the same length.
use Rattle.std.proofs.Common.{◌≡◌, ℕ, suc, ◌<◌, ◌≤◌, List, [], ◌∷◌, ◌++◌, Bool, true, false, refl, sym, ◌∙◌, subst, length, arith, inl, inr, ◌⊎◌}
use Rattle.std.specs.Prelude.{◌==◌, not, if◌then◌else◌}
use Rattle.std.proofs.lemmas.Bool.Decides.{nat_tests}
use Rattle.dc_base.specs.Words.{without}
use Rattle.dc_refine.proofs.Members.{In, in_either}

-- no number stands twice
abbrev pub AreDistinct : List ℕ → Type 0
AreDistinct [] = Unit {0}
AreDistinct (n ∷ ns) = (In n ns → ⊥) × AreDistinct ns

pub distinct_both : (ms ns : List ℕ) → AreDistinct ms → AreDistinct ns → ((n : ℕ) → In n ms → In n ns → ⊥) → AreDistinct (ms ++ ns)
distinct_both [] ns d e apart = e
distinct_both (m ∷ ms) ns d e apart =
    (λ h. by_part (in_either m ms ns h), distinct_both ms ns d.1 e (λ n g h. apart n (inr g) h))
  where
    by_part : In m ms ⊎ In m ns → ⊥
    by_part (inl g) = d.0 g
    by_part (inr g) = apart m (inl refl) g

-- one number taken out
still_by : (n x m : ℕ) (ns : List ℕ) → (x ≡ n → ⊥) → (In x ns → In x (without n ns)) → (t : Bool) → (m == n) ≡ t → (x ≡ m) ⊎ In x ns → In x (if not t then m ∷ without n ns else without n ns)
still_by n x m ns apart more true e (inl f) = absurd (apart (let g : m ≡ n = grind (arith, nat_tests, e) in f ∙ g))
still_by n x m ns apart more true e (inr h) = more h
still_by n x m ns apart more false e (inl f) = inl f
still_by n x m ns apart more false e (inr h) = inr (more h)

still_in : (n x : ℕ) (ns : List ℕ) → (x ≡ n → ⊥) → In x ns → In x (without n ns)
still_in n x [] apart h = absurd h
still_in n x (m ∷ ns) apart h = still_by n x m ns apart (λ g. still_in n x ns apart g) (m == n) refl h

length_still : (n : ℕ) (ns : List ℕ) → length (without n ns) ≤ length ns
length_still n [] = omega arith
length_still n (m ∷ ns) = by_test (m == n) (length_still n ns)
  where
    by_test : (t : Bool) → length (without n ns) ≤ length ns → length (if not t then m ∷ without n ns else without n ns) ≤ suc (length ns)
    by_test true h = omega (arith, h)
    by_test false h = omega (arith, h)

shorter_by : (n m : ℕ) (ns : List ℕ) → (In n ns → length (without n ns) < length ns) → (t : Bool) → (m == n) ≡ t → (n ≡ m) ⊎ In n ns → length (if not t then m ∷ without n ns else without n ns) < suc (length ns)
shorter_by n m ns more true e h = let k = length_still n ns in omega (arith, k)
shorter_by n m ns more false e (inl f) = absurd (let g : (m == n) ≡ true = grind (arith, nat_tests, f) in let k : true ≡ false = sym g ∙ e in cc)
shorter_by n m ns more false e (inr h) = let k = more h in omega (arith, k)

shorter : (n : ℕ) (ns : List ℕ) → In n ns → length (without n ns) < length ns
shorter n [] h = absurd h
shorter n (m ∷ ns) h = shorter_by n m ns (λ g. shorter n ns g) (m == n) refl h

-- distinct numbers that all stand in another list are at most as many
pub at_most : (ms ns : List ℕ) → AreDistinct ms → ((n : ℕ) → In n ms → In n ns) → length ms ≤ length ns
at_most [] ns d h = omega arith
at_most (m ∷ ms) ns d h =
    let k = shorter m ns (h m (inl refl)) in
    let l = at_most ms (without m ns) d.1 (λ n g. still_in m n ns (λ e. d.0 (subst (λ v. In v ms) e g)) (h n (inr g))) in
    omega (arith, k, l)

pub same_length : (ms ns : List ℕ) → AreDistinct ms → AreDistinct ns → ((n : ℕ) → In n ms → In n ns) → ((n : ℕ) → In n ns → In n ms) → length ms ≡ length ns
same_length ms ns d e f g = let a = at_most ms ns d f in let b = at_most ns ms e g in omega arith
