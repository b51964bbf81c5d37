-- Ready lists that grow, shrink and have no room.
use Rattle.std.proofs.Common.{◌≡◌, ℕ, zero, suc, ◌<◌, ◌≤◌, Bool, true, false, cond, not, List, [], ◌∷◌, ◌++◌, length, take, get_or, sym, refl, ap, ◌∙◌, subst, ⊎_elim, arith, length-append}
use Rattle.std.proofs.lemmas.List.{length-map}
use Rattle.std.specs.Prelude.{◌==◌, ◌||◌, Some, slice_get, nat_lt, filter}
use Rattle.std.proofs.lemmas.Bool.{eqb-true, eqb-false, ne_eqb, or_parts, or_from, cases_Bool, lt-ltb, le-ltb}
use Rattle.std.proofs.lemmas.Option.{none-some, same_Some, slice_get-get_or}
use Rattle.dc_base.specs.declared.numbers.DispNo.{DispNo}
use Rattle.dc_base.specs.Words.{lists}
use Rattle.dc_ready.specs.Entries.{dispatchers, without_disp, entry_of, entries_of, AreOnceBelow, IsReadyList}

flipped : (a b : ℕ) → (a == b) ≡ false → (b == a) ≡ false
flipped a b h = ne_eqb b a (λ e. eqb-false a b h (sym e))

lists-push : (n d due : ℕ) (es : List (ℕ × ℕ)) → lists (dispatchers es) n ≡ false → (d == n) ≡ false → lists (dispatchers (es ++ (d, due) ∷ [])) n ≡ false
lists-push n d due [] h q = or_from (d == n) false q refl
lists-push n d due (e ∷ es) h q =
    let p = or_parts (e.0 == n) (lists (dispatchers es) n) h in
    or_from (e.0 == n) (lists (dispatchers (es ++ (d, due) ∷ [])) n) p.0 (lists-push n d due es p.1 q)

pub once-push : (n d due : ℕ) (es : List (ℕ × ℕ)) → AreOnceBelow n es → d < n → lists (dispatchers es) d ≡ false → AreOnceBelow n (es ++ (d, due) ∷ [])
once-push n d due [] r lt h = (lt, refl, tt)
once-push n d due (e ∷ es) r lt h =
    let p = or_parts (e.0 == d) (lists (dispatchers es) d) h in
    (r.0, lists-push e.0 d due es r.1 (flipped e.0 d p.0), once-push n d due es r.2 lt p.1)

lists-without : (n d : ℕ) (es : List (ℕ × ℕ)) → lists (dispatchers es) n ≡ false → lists (dispatchers (without_disp d es)) n ≡ false
lists-without n d [] h = refl
lists-without n d (e ∷ es) h =
    let p = or_parts (e.0 == n) (lists (dispatchers es) n) h in
    let less : lists (dispatchers (without_disp d es)) n ≡ false = lists-without n d es p.1 in
    elim (e.0 == d) as (λ b. lists (dispatchers (cond (not b) (e ∷ without_disp d es) (without_disp d es))) n ≡ false)
    [ true ↦ less | false ↦ or_from (e.0 == n) (lists (dispatchers (without_disp d es)) n) p.0 less ]

pub once-without : (n d : ℕ) (es : List (ℕ × ℕ)) → AreOnceBelow n es → AreOnceBelow n (without_disp d es)
once-without n d [] r = tt
once-without n d (e ∷ es) r =
    let less : AreOnceBelow n (without_disp d es) = once-without n d es r.2 in
    elim (e.0 == d) as (λ b. AreOnceBelow n (cond (not b) (e ∷ without_disp d es) (without_disp d es)))
    [ true ↦ less | false ↦ (r.0, lists-without e.0 d es r.1, less) ]

-- without the greatest number, all are below it
below-without : (n : ℕ) (es : List (ℕ × ℕ)) → AreOnceBelow (suc n) es → AreOnceBelow n (without_disp n es)
below-without n [] r = tt
below-without n (e ∷ es) r = by_test (below-without n es r.2) (e.0 == n) refl
  where
    by_test : AreOnceBelow n (without_disp n es) → (b : Bool) → (e.0 == n) ≡ b → AreOnceBelow n (cond (not b) (e ∷ without_disp n es) (without_disp n es))
    by_test less true q = less
    by_test less false q = let ne = eqb-false e.0 n q in let lt : e.0 < suc n = r.0 in (omega arith, lists-without e.0 n es r.1, less)

pub without-absent : (d : ℕ) (es : List (ℕ × ℕ)) → lists (dispatchers es) d ≡ false → without_disp d es ≡ es
without-absent d [] h = refl
without-absent d (e ∷ es) h =
    let p = or_parts (e.0 == d) (lists (dispatchers es) d) h in
    subst (λ b. cond (not b) (e ∷ without_disp d es) (without_disp d es) ≡ e ∷ es) (sym p.0) (ap (λ xs. e ∷ xs) (without-absent d es p.1))

-- at most one goes
length-without : (n d : ℕ) (es : List (ℕ × ℕ)) → AreOnceBelow n es → length es ≤ suc (length (without_disp d es))
length-without n d [] r = omega arith
length-without n d (e ∷ es) r = by_test (length-without n d es r.2) (e.0 == d) refl
  where
    by_test : length es ≤ suc (length (without_disp d es)) → (b : Bool) → (e.0 == d) ≡ b → suc (length es) ≤ suc (length (cond (not b) (e ∷ without_disp d es) (without_disp d es)))
    by_test less true q = let same = ap length (without-absent d es (subst (λ m. lists (dispatchers es) m ≡ false) (eqb-true e.0 d q) r.1)) in omega (arith, same)
    by_test less false q = omega (arith, less)

-- there are at most n numbers below n
pub length-once : (n : ℕ) (es : List (ℕ × ℕ)) → AreOnceBelow n es → length es ≤ n
length-once zero [] r = omega arith
length-once zero (e ∷ es) r = let lt : e.0 < zero = r.0 in absurd (omega arith)
length-once (suc n) es r = omega (arith, length-without (suc n) n es r, length-once n (without_disp n es) (below-without n es r))

without-le : (d : ℕ) (es : List (ℕ × ℕ)) → length (without_disp d es) ≤ length es
without-le d [] = omega arith
without-le d (e ∷ es) =
    let less = without-le d es in
    elim (e.0 == d) as (λ b. length (cond (not b) (e ∷ without_disp d es) (without_disp d es)) ≤ suc (length es)) [ true ↦ omega (arith, less) | false ↦ omega (arith, less) ]

without-lt : (d : ℕ) (es : List (ℕ × ℕ)) → lists (dispatchers es) d ≡ true → length (without_disp d es) < length es
without-lt d [] h = cc
without-lt d (e ∷ es) h = by_test (without-lt d es) (e.0 == d) h
  where
    by_test : (lists (dispatchers es) d ≡ true → length (without_disp d es) < length es) → (b : Bool) → (b || lists (dispatchers es) d) ≡ true → length (cond (not b) (e ∷ without_disp d es) (without_disp d es)) < suc (length es)
    by_test more true q = omega (arith, without-le d es)
    by_test more false q = let lt = more q in omega (arith, lt)

-- one was there where the list is shorter then
pub lt-without : (d : ℕ) (es : List (ℕ × ℕ)) → nat_lt (length (without_disp d es)) (length es) ≡ lists (dispatchers es) d
lt-without d es = ⊎_elim
    (λ t. lt-ltb (length (without_disp d es)) (length es) (without-lt d es t) ∙ sym t)
    (λ f. let same = ap length (without-absent d es f) in le-ltb (length (without_disp d es)) (length es) (omega (arith, same)) ∙ sym f)
    (cases_Bool (lists (dispatchers es) d))

pub entries-filter : (d : ℕ) (xs : List (DispNo × ℕ)) → entries_of (filter (λ (x : DispNo × ℕ). not (x.0.0 == d)) xs) ≡ without_disp d (entries_of xs)
entries-filter d [] = refl
entries-filter d (x ∷ xs) =
    let rest = entries-filter d xs in
    elim (x.0.0 == d) as (λ b. entries_of (cond (not b) (x ∷ filter (λ (y : DispNo × ℕ). not (y.0.0 == d)) xs) (filter (λ (y : DispNo × ℕ). not (y.0.0 == d)) xs)) ≡ cond (not b) (entry_of x ∷ without_disp d (entries_of xs)) (without_disp d (entries_of xs)))
    [ true ↦ rest | false ↦ ap (λ es. entry_of x ∷ es) rest ]

absent-at : (n i : ℕ) (xs : List (DispNo × ℕ)) (x : DispNo × ℕ) → lists (dispatchers (entries_of xs)) n ≡ false → slice_get xs i ≡ Some x → (x.0.0 == n) ≡ false
absent-at n i [] x h e = absurd (none-some x e)
absent-at n zero (y ∷ ys) x h e = let p = or_parts (y.0.0 == n) (lists (dispatchers (entries_of ys)) n) h in subst (λ (z : DispNo × ℕ). (z.0.0 == n) ≡ false) (same_Some y x e) p.0
absent-at n (suc i) (y ∷ ys) x h e = let p = or_parts (y.0.0 == n) (lists (dispatchers (entries_of ys)) n) h in absent-at n i ys x p.1 e

-- what stands at a place is below n, and not before it
pub once-at : (n i : ℕ) (xs : List (DispNo × ℕ)) (x : DispNo × ℕ) → AreOnceBelow n (entries_of xs) → slice_get xs i ≡ Some x → (x.0.0 < n) × (lists (dispatchers (entries_of (take i xs))) x.0.0 ≡ false)
once-at n i [] x r e = absurd (none-some x e)
once-at n zero (y ∷ ys) x r e = (subst (λ (z : DispNo × ℕ). z.0.0 < n) (same_Some y x e) r.0, refl)
once-at n (suc i) (y ∷ ys) x r e =
    let more = once-at n i ys x r.2 e in
    (more.0, or_from (y.0.0 == x.0.0) (lists (dispatchers (entries_of (take i ys))) x.0.0) (flipped x.0.0 y.0.0 (absent-at y.0.0 i ys x r.1 e)) more.1)

pub entries-push : (xs : List (DispNo × ℕ)) (x : DispNo × ℕ) → entries_of (xs ++ x ∷ []) ≡ entries_of xs ++ entry_of x ∷ []
entries-push [] x = refl
entries-push (y ∷ ys) x = ap (λ es. entry_of y ∷ es) (entries-push ys x)

-- a listed number is below n
pub below-listed : (n d : ℕ) (es : List (ℕ × ℕ)) → AreOnceBelow n es → lists (dispatchers es) d ≡ true → d < n
below-listed n d [] r h = cc
below-listed n d (e ∷ es) r h = by_test (below-listed n d es r.2) (e.0 == d) refl h
  where
    by_test : (lists (dispatchers es) d ≡ true → d < n) → (b : Bool) → (e.0 == d) ≡ b → (b || lists (dispatchers es) d) ≡ true → d < n
    by_test more true q t = subst (λ m. m < n) (eqb-true e.0 d q) r.0
    by_test more false q t = more t

-- one entry more, which was not there
module _ (xs : List (DispNo × ℕ)) (x : DispNo × ℕ) (es : List (ℕ × ℕ)) (same : entries_of xs ≡ es) (once : IsReadyList (entries_of xs)) (lt : x.0.0 < 16) (absent : lists (dispatchers es) x.0.0 ≡ false) where
  pub ready-more : IsReadyList (entries_of (xs ++ x ∷ []))
  ready-more = subst IsReadyList (sym (entries-push xs x)) (once-push 16 x.0.0 x.1 (entries_of xs) once lt (subst (λ ys. lists (dispatchers ys) x.0.0 ≡ false) (sym same) absent))

  pub room : length xs < 16
  room = omega (arith, length-once 16 (entries_of (xs ++ x ∷ [])) ready-more, length-map (xs ++ x ∷ []) entry_of, length-append xs (x ∷ []))

-- entries that are kept as one dispatcher goes
module _ (d : ℕ) (xs ys : List (DispNo × ℕ)) (kept : ys ≡ filter (λ (x : DispNo × ℕ). not (x.0.0 == d)) xs) where
  pub ready-less : IsReadyList (entries_of xs) → IsReadyList (entries_of ys)
  ready-less once = subst IsReadyList (sym (entries-filter d xs) ∙ ap entries_of (sym kept)) (once-without 16 d (entries_of xs) once)

  module _ (es : List (ℕ × ℕ)) (same : entries_of xs ≡ es) where
    pub entries-less : entries_of ys ≡ without_disp d es
    entries-less = ap entries_of kept ∙ (entries-filter d xs ∙ ap (without_disp d) same)

    pub lt-less : nat_lt (length ys) (length xs) ≡ lists (dispatchers es) d
    lt-less =
        let less : length ys ≡ length (without_disp d es) = sym (length-map ys entry_of) ∙ ap length entries-less in
        let long : length xs ≡ length es = sym (length-map xs entry_of) ∙ ap length same in
        ap (λ n. nat_lt n (length xs)) less ∙ (ap (nat_lt (length (without_disp d es))) long ∙ lt-without d es)

-- the entry at a place, and those before it
module _ (xs items : List (DispNo × ℕ)) (i : ℕ) (o : DispNo × ℕ) (same : xs ≡ items) (once : IsReadyList (entries_of items)) (lt : i < length xs) where
  pub taken-once : ((get_or xs i o).0.0 < 16) × (lists (dispatchers (entries_of (take i xs))) (get_or xs i o).0.0 ≡ false)
  taken-once = once-at 16 i xs (get_or xs i o) (subst (λ ys. IsReadyList (entries_of ys)) (sym same) once) (slice_get-get_or xs i o lt)
