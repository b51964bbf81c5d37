-- Lists of numbers.
use Rattle.std.proofs.Common.{◌≡◌, ◌≢◌, ℕ, zero, suc, ◌<◌, ◌≤◌, ◌⊎◌, ◌==◌, ◌||◌, ◌&&◌, ap₂, Bool, true, false, cond, List, [], ◌∷◌, ◌++◌, length, sym, refl, ap, ◌∙◌, subst, inl, inr, arith, eq-eqb, ne_eqb, true≢false}
use Rattle.std.proofs.Math.Bool.{or-true}
use Rattle.std.proofs.lemmas.Bool.{or_parts}
use mathlib.Core.Logic.{dite}
use native.Mathlib.Decide.{ℕ_discrete}
use Rattle.dc_stage.specs.Numbers.{has, has_pair, without, IsApart, IsBelow}

pub has_cons : (j i : ℕ) (xs : List ℕ) → has j (i ∷ xs) ≡ true → (j ≡ i) ⊎ (has j xs ≡ true)
has_cons j i xs h = dite (ℕ_discrete j i) (λ e. inl e) (λ n. inr (ap (λ b. b || has j xs) (sym (ne_eqb j i n)) ∙ h))

pub has_tail : (j i : ℕ) (xs : List ℕ) → has j xs ≡ true → has j (i ∷ xs) ≡ true
has_tail j i xs h = ap (λ b. (j == i) || b) h ∙ or-true (j == i)

pub has_head : (j i : ℕ) (xs : List ℕ) → j ≡ i → has j (i ∷ xs) ≡ true
has_head j i xs e = ap (λ b. b || has j xs) (eq-eqb j i e)

pub pair_cons : (j b i a : ℕ) (xs : List (ℕ × ℕ)) → has_pair j b ((i, a) ∷ xs) ≡ true → ((j ≡ i) × (b ≡ a)) ⊎ (has_pair j b xs ≡ true)
pair_cons j b i a xs h = dite (ℕ_discrete j i)
    (λ e. dite (ℕ_discrete b a) (λ f. inl (e, f)) (λ n. inr (ap₂ (λ x y. (x && y) || has_pair j b xs) (sym (eq-eqb j i e)) (sym (ne_eqb b a n)) ∙ h)))
    (λ n. inr (ap (λ x. (x && (b == a)) || has_pair j b xs) (sym (ne_eqb j i n)) ∙ h))

pub without_other : (j i : ℕ) (xs : List ℕ) → j ≢ i → has j (without i xs) ≡ has j xs
without_other j i [] n = refl
without_other j i (x ∷ xs) n = dite (ℕ_discrete i x)
    (λ e. ap (λ b. has j (cond b (without i xs) (x ∷ without i xs))) (eq-eqb i x e) ∙ (without_other j i xs n ∙ sym (ap (λ b. b || has j xs) (ne_eqb j x (λ h. n (h ∙ sym e))))))
    (λ ne. ap (λ b. has j (cond b (without i xs) (x ∷ without i xs))) (ne_eqb i x ne) ∙ ap (λ b. (j == x) || b) (without_other j i xs n))

pub without_same : (i : ℕ) (xs : List ℕ) → has i (without i xs) ≡ false
without_same i [] = refl
without_same i (x ∷ xs) = dite (ℕ_discrete i x)
    (λ e. ap (λ b. has i (cond b (without i xs) (x ∷ without i xs))) (eq-eqb i x e) ∙ without_same i xs)
    (λ ne. ap (λ b. has i (cond b (without i xs) (x ∷ without i xs))) (ne_eqb i x ne) ∙ (ap (λ b. b || has i (without i xs)) (ne_eqb i x ne) ∙ without_same i xs))

pub has_snoc : (j x : ℕ) (xs : List ℕ) → has j (xs ++ x ∷ []) ≡ has j (x ∷ xs)
has_snoc j x [] = refl
has_snoc j x (y ∷ ys) = ap (λ b. (j == y) || b) (has_snoc j x ys) ∙ swap (j == y) (j == x) (has j ys)
  where
    swap : (a b c : Bool) → (a || (b || c)) ≡ (b || (a || c))
    swap true true c = refl
    swap true false c = refl
    swap false b c = refl

pub apart_snoc : (x : ℕ) (xs : List ℕ) → has x xs ≡ false → IsApart xs → IsApart (xs ++ x ∷ [])
apart_snoc x [] h a = (refl, tt)
apart_snoc x (y ∷ ys) h a =
    let o = or_parts (x == y) (has x ys) h in
    let n : (y == x) ≡ false = ne_eqb y x (λ e. true≢false (sym (eq-eqb x y (sym e)) ∙ o.0)) in
    (has_snoc y x ys ∙ (ap (λ b. b || has y ys) n ∙ a.0), apart_snoc x ys o.1 a.1)

pub absent_without : (j i : ℕ) (xs : List ℕ) → has j xs ≡ false → has j (without i xs) ≡ false
absent_without j i xs h = dite (ℕ_discrete j i)
    (λ e. ap (λ z. has z (without i xs)) e ∙ without_same i xs)
    (λ n. without_other j i xs n ∙ h)

pub apart_without : (i : ℕ) (xs : List ℕ) → IsApart xs → IsApart (without i xs)
apart_without i [] a = tt
apart_without i (x ∷ xs) a = dite (ℕ_discrete i x)
    (λ e. subst (λ b. IsApart (cond b (without i xs) (x ∷ without i xs))) (sym (eq-eqb i x e)) (apart_without i xs a.1))
    (λ n. subst (λ b. IsApart (cond b (without i xs) (x ∷ without i xs))) (sym (ne_eqb i x n)) (absent_without x i xs a.0, apart_without i xs a.1))

without_absent : (i : ℕ) (xs : List ℕ) → has i xs ≡ false → without i xs ≡ xs
without_absent i [] h = refl
without_absent i (x ∷ xs) h = let o = or_parts (i == x) (has i xs) h in ap (λ b. cond b (without i xs) (x ∷ without i xs)) o.0 ∙ ap (λ t. x ∷ t) (without_absent i xs o.1)

length_without : (i : ℕ) (xs : List ℕ) → IsApart xs → length xs ≤ suc (length (without i xs))
length_without i [] a = omega arith
length_without i (x ∷ xs) a = dite (ℕ_discrete i x)
    (λ e. let l = ap (λ b. length (cond b (without i xs) (x ∷ without i xs))) (eq-eqb i x e) in let w = ap length (without_absent i xs (ap (λ z. has z xs) e ∙ a.0)) in omega arith)
    (λ n. let l = ap (λ b. length (cond b (without i xs) (x ∷ without i xs))) (ne_eqb i x n) in let r = length_without i xs a.1 in omega arith)

-- so many different numbers below n are at most n
pub few_below : (n : ℕ) (xs : List ℕ) → IsApart xs → IsBelow n xs → length xs ≤ n
few_below zero [] a b = omega arith
few_below zero (x ∷ xs) a b = absurd (let h = b x (has_head x x xs refl) in omega arith)
few_below (suc n) xs a b =
    let r = few_below n (without n xs) (apart_without n xs a) (λ i h. let ne : i ≢ n = λ e. true≢false (sym h ∙ (ap (λ z. has z (without n xs)) e ∙ without_same n xs)) in
    let l = b i (sym (without_other i n xs ne) ∙ h) in omega arith) in
    let w = length_without n xs a in omega arith

-- where the number stands first
abbrev pub place_of : ℕ → List ℕ → ℕ
place_of i [] = 0
place_of i (x ∷ xs) = cond (i == x) 0 (suc (place_of i xs))

place_else : (i y : ℕ) (ys : List ℕ) → i ≢ y → place_of i (y ∷ ys) ≡ suc (place_of i ys)
place_else i y ys n = ap (λ b. cond b 0 (suc (place_of i ys))) (ne_eqb i y n)

place_snoc : (i y : ℕ) (ys : List ℕ) → has i ys ≡ true → place_of i (ys ++ y ∷ []) ≡ place_of i ys
place_snoc i y [] h = absurd (true≢false (sym h))
place_snoc i y (x ∷ xs) h = dite (ℕ_discrete i x)
    (λ e. ap (λ b. cond b 0 (suc (place_of i (xs ++ y ∷ [])))) (eq-eqb i x e) ∙ sym (ap (λ b. cond b 0 (suc (place_of i xs))) (eq-eqb i x e)))
    (λ n. place_else i x (xs ++ y ∷ []) n ∙ (ap suc (place_snoc i y xs (other n)) ∙ sym (place_else i x xs n)))
  where
    other : i ≢ x → has i xs ≡ true
    other n = ap (λ b. b || has i xs) (sym (ne_eqb i x n)) ∙ h

-- where another number goes behind, this one stands nearer the front
pub place_falls : (i y : ℕ) (ys : List ℕ) → i ≢ y → has i (y ∷ ys) ≡ true → place_of i (ys ++ y ∷ []) < place_of i (y ∷ ys)
place_falls i y ys n h =
    let m : has i ys ≡ true = ap (λ b. b || has i ys) (sym (ne_eqb i y n)) ∙ h in
    let a = place_snoc i y ys m in let b = place_else i y ys n in omega arith

pub not_empty : (i : ℕ) (xs : List ℕ) → has i xs ≡ true → (y : ℕ) × (ys : List ℕ) × (xs ≡ y ∷ ys)
not_empty i [] h = absurd (true≢false (sym h))
not_empty i (x ∷ xs) h = (x, xs, refl)

pub not_true : (b : Bool) → b ≢ true → b ≡ false
not_true true n = absurd (n refl)
not_true false n = refl
