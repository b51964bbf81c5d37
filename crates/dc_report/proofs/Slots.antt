-- The used slots of a block from a number on.
use Rattle.std.proofs.Common.{◌≡◌, ℕ, suc, ◌+◌, ◌<◌, ◌≤◌, List, [], ◌∷◌, Bool, true, false, Some, None, refl, sym, ap, ◌∙◌, cond, arith, nat_le}
use Rattle.std.specs.Prelude.{slice_get, ◌==◌}
use Rattle.std.proofs.lemmas.Bool.Decides.{nat_tests}
use Rattle.dc_base.specs.Words.{Each}
use Rattle.dc_base.specs.Capabilities.{Seat, seat_at}
use Rattle.dc_base.proofs.EachLaws.{each_first, each_rest}
use Rattle.dc_report.specs.Remaining.{seats_from}

-- the slots ascend
abbrev pub Ascends : List Seat → Type 0
Ascends caps = (i j : ℕ) (h k : Seat) → i < j → slice_get caps i ≡ Some h → slice_get caps j ≡ Some k → h.slot < k.slot

ascends_rest : (h : Seat) (caps : List Seat) → Ascends (h ∷ caps) → Ascends caps
ascends_rest h caps a = λ i j x y below e f. a (suc i) (suc j) x y (omega (arith, below)) e f

kept_by : (n : ℕ) (h : Seat) (caps : List Seat) (t : Bool) → nat_le n h.slot ≡ t → seats_from n (h ∷ caps) ≡ cond t (h ∷ seats_from n caps) (seats_from n caps)
kept_by n h caps t e = ap (λ u. cond u (h ∷ seats_from n caps) (seats_from n caps)) e

pub all_from : (n : ℕ) (caps : List Seat) → Each caps (λ i (h : Seat). n ≤ h.slot) → seats_from n caps ≡ caps
all_from n [] a = refl
all_from n (h ∷ caps) a =
    let first = each_first (λ i (k : Seat). n ≤ k.slot) h caps a in
    let is : nat_le n h.slot ≡ true = grind (arith, nat_tests, first) in
    kept_by n h caps true is ∙ ap (λ l. h ∷ l) (all_from n caps (each_rest (λ i (k : Seat). n ≤ k.slot) h caps a))

pub none_from : (n : ℕ) (caps : List Seat) → Each caps (λ i (h : Seat). h.slot < n) → seats_from n caps ≡ []
none_from n [] a = refl
none_from n (h ∷ caps) a =
    let first = each_first (λ i (k : Seat). k.slot < n) h caps a in
    let is : nat_le n h.slot ≡ false = grind (arith, nat_tests, first) in
    kept_by n h caps false is ∙ none_from n caps (each_rest (λ i (k : Seat). k.slot < n) h caps a)

-- where it is found
found_by : (n : ℕ) (k : Seat) (caps : List Seat) (h : Seat) (t : Bool) → (k.slot == n) ≡ t → cond t (Some k) (seat_at caps n) ≡ Some h → (seat_at caps n ≡ Some h → (i : ℕ) × (slice_get caps i ≡ Some h) × (h.slot ≡ n)) → (i : ℕ) × (slice_get (k ∷ caps) i ≡ Some h) × (h.slot ≡ n)
found_by n k caps h true e f more = let same : k ≡ h = cc in (0, f, (ap (λ (s : Seat). s.slot) (sym same) ∙ (let g : k.slot ≡ n = grind (arith, nat_tests, e) in g)))
found_by n k caps h false e f more = let m = more f in (suc m.0, m.1, m.2)

pub found : (n : ℕ) (caps : List Seat) (h : Seat) → seat_at caps n ≡ Some h → (i : ℕ) × (slice_get caps i ≡ Some h) × (h.slot ≡ n)
found n [] h e = absurd cc
found n (k ∷ caps) h e = found_by n k caps h (k.slot == n) refl e (λ f. found n caps h f)

-- no slot of this number is used
none_by : (n : ℕ) (k : Seat) (caps : List Seat) (t : Bool) → (k.slot == n) ≡ t → cond t (Some k) (seat_at caps n) ≡ None → (seat_at caps n ≡ None → seats_from n caps ≡ seats_from (n + 1) caps) → (u v : Bool) → nat_le n k.slot ≡ u → nat_le (n + 1) k.slot ≡ v → seats_from n (k ∷ caps) ≡ seats_from (n + 1) (k ∷ caps)
none_by n k caps true e f more u v g h = absurd cc
none_by n k caps false e f more true true g h = kept_by n k caps true g ∙ (ap (λ l. k ∷ l) (more f) ∙ sym (kept_by (n + 1) k caps true h))
none_by n k caps false e f more false false g h = kept_by n k caps false g ∙ (more f ∙ sym (kept_by (n + 1) k caps false h))
none_by n k caps false e f more true false g h = absurd (grind (arith, nat_tests, e, g, h))
none_by n k caps false e f more false true g h = absurd (grind (arith, nat_tests, e, g, h))

pub slot_passed : (n : ℕ) (caps : List Seat) → seat_at caps n ≡ None → seats_from n caps ≡ seats_from (n + 1) caps
slot_passed n [] e = refl
slot_passed n (k ∷ caps) e = none_by n k caps (k.slot == n) refl e (λ f. slot_passed n caps f) (nat_le n k.slot) (nat_le (n + 1) k.slot) refl refl

-- the slot of this number is used
module _ (n : ℕ) (k : Seat) (caps : List Seat) (h : Seat) (a : Ascends (k ∷ caps)) where
  here : k.slot ≡ n → k ≡ h → seats_from n (k ∷ caps) ≡ h ∷ seats_from (n + 1) (k ∷ caps)
  here e same =
      let above : Each caps (λ i (x : Seat). n + 1 ≤ x.slot) = λ i x f. (let b = a 0 (suc i) k x (omega arith) refl f in omega (arith, b, e)) in
      let also : Each caps (λ i (x : Seat). n ≤ x.slot) = λ i x f. (let b = above i x f in omega (arith, b)) in
      let is : nat_le n k.slot ≡ true = grind (arith, nat_tests, e) in
      let not_later : nat_le (n + 1) k.slot ≡ false = grind (arith, nat_tests, e) in
      kept_by n k caps true is
      ∙ (ap (λ l. k ∷ l) (all_from n caps also)
      ∙ (ap (λ x. x ∷ caps) same
      ∙ ap (λ l. h ∷ l) (sym (kept_by (n + 1) k caps false not_later ∙ all_from (n + 1) caps above))))

  later : (i : ℕ) → slice_get caps i ≡ Some h → h.slot ≡ n → seats_from n caps ≡ h ∷ seats_from (n + 1) caps → seats_from n (k ∷ caps) ≡ h ∷ seats_from (n + 1) (k ∷ caps)
  later i f e more =
      let below = a 0 (suc i) k h (omega arith) refl f in
      let is : nat_le n k.slot ≡ false = grind (arith, nat_tests, e, below) in
      let not_later : nat_le (n + 1) k.slot ≡ false = grind (arith, nat_tests, e, below) in
      kept_by n k caps false is ∙ (more ∙ ap (λ l. h ∷ l) (sym (kept_by (n + 1) k caps false not_later)))

  some_by : (t : Bool) → (k.slot == n) ≡ t → cond t (Some k) (seat_at caps n) ≡ Some h → (seat_at caps n ≡ Some h → seats_from n caps ≡ h ∷ seats_from (n + 1) caps) → seats_from n (k ∷ caps) ≡ h ∷ seats_from (n + 1) (k ∷ caps)
  some_by true e f more = here (let g : k.slot ≡ n = grind (arith, nat_tests, e) in g) cc
  some_by false e f more = let m = found n caps h f in later m.0 m.1 m.2 (more f)

pub slot_there : (n : ℕ) (caps : List Seat) (h : Seat) → Ascends caps → seat_at caps n ≡ Some h → seats_from n caps ≡ h ∷ seats_from (n + 1) caps
slot_there n [] h a e = absurd cc
slot_there n (k ∷ caps) h a e = some_by n k caps h a (k.slot == n) refl e (λ f. slot_there n caps h (ascends_rest k caps a) f)
