-- Counted steps lead to just the slots from which a slot descends: no way up needs a slot twice.
use Rattle.std.proofs.Common.{
  ◌≡◌,
  ◌⊎◌,
  inl,
  inr,
  ℕ,
  zero,
  suc,
  ◌<◌,
  ◌≤◌,
  List,
  [],
  ◌∷◌,
  Bool,
  true,
  false,
  Option,
  Some,
  None,
  refl,
  sym,
  ap,
  ◌∙◌,
  subst,
  arith,
  length,
}
use Rattle.std.specs.Prelude.{◌==◌, ◌||◌, not, if◌then◌else◌, filter, slice_get}
use Rattle.std.proofs.lemmas.Bool.Decides.{nat_tests}
use Rattle.dc_base.specs.Capabilities.{Seat, seat_at, parent_in, parent_at, reaches_in, reaches}
use Rattle.dc_base.specs.Descent.{Descends, child, further}

same_is : (n : ℕ) → (n == n) ≡ true
same_is n = grind (arith, nat_tests)

pub is_same : (m n : ℕ) → (m == n) ≡ true → m ≡ n
is_same m n h = grind (arith, nat_tests)

other_is : (m n : ℕ) → (m ≡ n → ⊥) → (m == n) ≡ false
other_is m n h = grind (arith, nat_tests)

is_other : (m n : ℕ) → (m == n) ≡ false → m ≡ n → ⊥
is_other m n h e = grind (arith, nat_tests)

-- the table without a slot
abbrev others : ℕ → List Seat → List Seat
others x caps = filter (λ (h : Seat). not (h.slot == x)) caps

no_more : (x : ℕ) (caps : List Seat) → length (others x caps) ≤ length caps
no_more x [] = omega arith
no_more x (k ∷ ks) = by_test (k.slot == x) (no_more x ks)
  where
    by_test : (t : Bool) → length (others x ks) ≤ length ks → length (if not t then k ∷ others x ks else others x ks) ≤ suc (length ks)
    by_test true h = omega (arith, h)
    by_test false h = omega (arith, h)

-- it is shorter where the slot is used
fewer : (x : ℕ) (caps : List Seat) (h : Seat) → seat_at caps x ≡ Some h → length (others x caps) < length caps
fewer x [] h e = absurd cc
fewer x (k ∷ ks) h e = by_test (k.slot == x) e (fewer x ks h)
  where
    by_test : (t : Bool) → (if t then Some k else seat_at ks x) ≡ Some h → (seat_at ks x ≡ Some h → length (others x ks) < length ks) →
        length (if not t then k ∷ others x ks else others x ks) < suc (length ks)
    by_test true g more = let l = no_more x ks in omega (arith, l)
    by_test false g more = let l = more g in omega (arith, l)

none_there : (x : ℕ) (caps : List Seat) → seat_at (others x caps) x ≡ None
none_there x [] = refl
none_there x (k ∷ ks) = by_test (k.slot == x) refl (none_there x ks)
  where
    by_test : (t : Bool) → (k.slot == x) ≡ t → seat_at (others x ks) x ≡ None → seat_at (if not t then k ∷ others x ks else others x ks) x ≡ None
    by_test true e more = more
    by_test false e more = ap (λ t. if t then Some k else seat_at (others x ks) x) e ∙ more

others_there : (x y : ℕ) (caps : List Seat) → (y ≡ x → ⊥) → seat_at (others x caps) y ≡ seat_at caps y
others_there x y [] apart = refl
others_there x y (k ∷ ks) apart = by_test (k.slot == x) refl (others_there x y ks apart)
  where
    by_test : (t : Bool) → (k.slot == x) ≡ t → seat_at (others x ks) y ≡ seat_at ks y →
        seat_at (if not t then k ∷ others x ks else others x ks) y ≡ (if k.slot == y then Some k else seat_at ks y)
    by_test true e more =
        let another : (k.slot == y) ≡ false = other_is k.slot y (λ q. apart (sym q ∙ is_same k.slot x e)) in
        more ∙ sym (ap (λ t. if t then Some k else seat_at ks y) another)
    by_test false e more = ap (λ o. if k.slot == y then Some k else o) more

module _ (caps : List Seat) (s x p : ℕ) (above : parent_at caps x ≡ Some p) where
  others_parent : (y q : ℕ) → (y ≡ x → ⊥) → parent_at caps y ≡ Some q → parent_at (others x caps) y ≡ Some q
  others_parent y q apart e = ap parent_in (others_there x y caps apart) ∙ e

  -- a way up that does not pass the slot, or one from its parent that does not
  Avoids : ℕ → Type 0
  Avoids y = Descends (others x caps) y s ⊎ ((p ≡ s) ⊎ Descends (others x caps) p s)

  avoided : (y : ℕ) → Descends caps y s → Avoids y
  unfolding Avoids
  avoided y (child _ _ e) = by_test (y == x) refl
    where
      by_test : (t : Bool) → (y == x) ≡ t → Avoids y
      by_test true q = let same : Some p ≡ Some s = sym above ∙ ap (parent_at caps) (sym (is_same y x q)) ∙ e in inr (inl (let r : p ≡ s = cc in r))
      by_test false q = inl (child y s (others_parent y s (is_other y x q) e))
  avoided y (further _ r _ e more) = by_test (y == x) refl (avoided r more)
    where
      by_test : (t : Bool) → (y == x) ≡ t → Avoids r → Avoids y
      by_test t q (inr done) = inr done
      by_test true q (inl way) =
          let same : Some r ≡ Some p = sym e ∙ ap (parent_at caps) (is_same y x q) ∙ above in
          let is : r ≡ p = cc in
          inr (inr (subst (λ v. Descends (others x caps) v s) is way))
      by_test false q (inl way) = inl (further y r s (others_parent y r (is_other y x q) e) way)

  nowhere : Descends (others x caps) x s → ⊥
  nowhere (child _ _ e) = let z : None ≡ Some s = sym (ap parent_in (none_there x caps)) ∙ e in cc
  nowhere (further _ r _ e more) = let z : None ≡ Some r = sym (ap parent_in (none_there x caps)) ∙ e in cc

  -- what a slot descends from is its parent, or its parent's way up avoids the slot
  beyond : Descends caps x s → (p ≡ s) ⊎ Descends (others x caps) p s
  unfolding Avoids
  beyond d = by_way (avoided x d)
    where
      by_way : Avoids x → (p ≡ s) ⊎ Descends (others x caps) p s
      by_way (inl way) = absurd (nowhere way)
      by_way (inr done) = done

-- what is reached in a part of a table is reached in the table
more_reached : (n : ℕ) (part caps : List Seat) (s : ℕ) → ((y q : ℕ) → parent_at part y ≡ Some q → parent_at caps y ≡ Some q) →
    (o u : Option ℕ) → ((q : ℕ) → o ≡ Some q → u ≡ Some q) →
    reaches_in n part s o ≡ true → reaches_in n caps s u ≡ true
more_reached zero part caps s sub o u same h = absurd cc
more_reached (suc n) part caps s sub None u same h = absurd cc
more_reached (suc n) part caps s sub (Some p) u same h =
    ap (reaches_in (suc n) caps s) (same p refl) ∙ by_test (p == s) h (more_reached n part caps s sub (parent_at part p) (parent_at caps p) (sub p))
  where
    by_test : (t : Bool) → (t || reaches_in n part s (parent_at part p)) ≡ true →
        (reaches_in n part s (parent_at part p) ≡ true → reaches_in n caps s (parent_at caps p) ≡ true) →
        (t || reaches_in n caps s (parent_at caps p)) ≡ true
    by_test true g more = refl
    by_test false g more = more g

part_of : (x : ℕ) (caps : List Seat) (y q : ℕ) → parent_at (others x caps) y ≡ Some q → parent_at caps y ≡ Some q
part_of x caps y q e = by_test (y == x) refl
  where
    by_test : (t : Bool) → (y == x) ≡ t → parent_at caps y ≡ Some q
    by_test true h = let z : None ≡ Some q = sym (ap parent_in (none_there x caps)) ∙ ap (parent_at (others x caps)) (sym (is_same y x h)) ∙ e in absurd cc
    by_test false h = ap parent_in (sym (others_there x y caps (is_other y x h))) ∙ e

-- a slot with a parent is used
used : (x p : ℕ) (caps : List Seat) → parent_at caps x ≡ Some p → (h : Seat) × (seat_at caps x ≡ Some h)
used x p caps e = by_seat (seat_at caps x) refl e
  where
    by_seat : (o : Option Seat) → seat_at caps x ≡ o → parent_in o ≡ Some p → (h : Seat) × (seat_at caps x ≡ Some h)
    by_seat None q g = absurd cc
    by_seat (Some h) q g = (h, q)

counted : (n : ℕ) (caps : List Seat) (s x : ℕ) → length caps ≤ n → Descends caps x s → (o : Option ℕ) → parent_at caps x ≡ o → reaches_in n caps s o ≡ true
counted n caps s x l (child _ _ e) None q = let z : None ≡ Some s = sym q ∙ e in absurd cc
counted n caps s x l (further _ r _ e more) None q = let z : None ≡ Some r = sym q ∙ e in absurd cc
counted zero caps s x l d (Some p) q = let w = used x p caps q in let f = fewer x caps w.0 w.1 in absurd (omega (arith, l, f))
counted (suc n) caps s x l d (Some p) q = by_way (beyond caps s x p q d) (λ few way. counted n (others x caps) s p few way (parent_at (others x caps) p) refl)
  where
    few : length (others x caps) ≤ n
    few = let w = used x p caps q in let f = fewer x caps w.0 w.1 in omega (arith, l, f)

    by_test : (t : Bool) → reaches_in n caps s (parent_at caps p) ≡ true → (t || reaches_in n caps s (parent_at caps p)) ≡ true
    by_test true up = refl
    by_test false up = up

    by_way : (p ≡ s) ⊎ Descends (others x caps) p s →
        (length (others x caps) ≤ n → Descends (others x caps) p s → reaches_in n (others x caps) s (parent_at (others x caps) p) ≡ true) →
        (p == s || reaches_in n caps s (parent_at caps p)) ≡ true
    by_way (inl e) more = ap (λ t. t || reaches_in n caps s (parent_at caps p)) (ap (λ m. m == s) e ∙ same_is s)
    by_way (inr way) more =
        let up = more_reached n (others x caps) caps s (part_of x caps) (parent_at (others x caps) p) (parent_at caps p) (part_of x caps p) (more few way) in
        by_test (p == s) up

descended : (n : ℕ) (caps : List Seat) (s x : ℕ) (o : Option ℕ) → parent_at caps x ≡ o → reaches_in n caps s o ≡ true → Descends caps x s
descended zero caps s x o q h = absurd cc
descended (suc n) caps s x None q h = absurd cc
descended (suc n) caps s x (Some p) q h = by_test (p == s) refl h (descended n caps s p (parent_at caps p) refl)
  where
    by_test : (t : Bool) → (p == s) ≡ t → (t || reaches_in n caps s (parent_at caps p)) ≡ true →
        (reaches_in n caps s (parent_at caps p) ≡ true → Descends caps p s) → Descends caps x s
    by_test true e g more = child x s (q ∙ ap Some (is_same p s e))
    by_test false e g more = further x p s q (more g)

-- the seat that stands for its slot
module _ (caps : List Seat) (h : Seat) (s : ℕ) (found : seat_at caps h.slot ≡ Some h) where
  pub reached_descends : reaches caps h s ≡ true → Descends caps h.slot s
  reached_descends r = descended (length caps) caps s h.slot h.parent (ap parent_in found) r

  pub descends_reached : Descends caps h.slot s → reaches caps h s ≡ true
  descends_reached d = counted (length caps) caps s h.slot (omega arith) d h.parent (ap parent_in found)

-- in an ascending table each seat stands for its slot
pub stands_for : (caps : List Seat) → ((i j : ℕ) (h k : Seat) → i < j → slice_get caps i ≡ Some h → slice_get caps j ≡ Some k → h.slot < k.slot) →
    (i : ℕ) (h : Seat) → slice_get caps i ≡ Some h → seat_at caps h.slot ≡ Some h
stands_for [] up i h e = absurd cc
stands_for (k ∷ ks) up zero h e =
    let same : k ≡ h = cc in
    let here : (k.slot == h.slot) ≡ true = ap (λ (v : Seat). v.slot == h.slot) same ∙ same_is h.slot in
    ap (λ t. if t then Some k else seat_at ks h.slot) here ∙ e
stands_for (k ∷ ks) up (suc i) h e =
    let below : k.slot < h.slot = up 0 (suc i) k h (omega arith) refl e in
    let apart : (k.slot == h.slot) ≡ false = other_is k.slot h.slot (λ q. omega (arith, below, q)) in
    ap (λ t. if t then Some k else seat_at ks h.slot) apart ∙ stands_for ks (λ a b g m l u v. up (suc a) (suc b) g m (omega (arith, l)) u v) i h e
