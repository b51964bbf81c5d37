-- The capabilities of a block as the image gives them.
use Rattle.std.proofs.Common.{◌≡◌, ℕ, suc, ◌+◌, ◌*◌, ◌<◌, ◌≤◌, List, [], ◌∷◌, Bool, true, false, None, refl, sym, subst, arith}
use Rattle.dc_base.specs.declared.capabilities.Cap.{Cap}
use Rattle.dc_base.specs.declared.images.CapImage.{CapImage}
use Rattle.dc_base.specs.declared.images.DispImage.{DispImage}
use Rattle.dc_base.specs.Words.{Each}
use Rattle.dc_base.specs.Capabilities.{Seat, slot_number, is_used}
use Rattle.dc_base.specs.Parts.{with_seats, seats_from}
use Rattle.dc_base.specs.Valid.{SlotsDiffer}
use Rattle.dc_base.proofs.EachLaws.{each_nil}
use Rattle.dc_base.proofs.Ascending.{ascends_nil}
use Rattle.dc_block_sound.proofs.Forests.{IsForest, seat_slot, put_forest}
use Rattle.dc_block_sound.proofs.Seats.{EachCap, each_put, used_seat}

-- what holds of each slot as the image gives it

pub each_seats : (P : ℕ → Cap → Type 0) (d : ℕ) (cs : List CapImage) (caps : List Seat) → Each cs (λ k c. P (slot_number d c.slot) c.cap) → EachCap P caps → EachCap P (with_seats d cs caps)
each_seats P d [] caps h k = k
each_seats P d (c ∷ cs) caps h k = each_put (record { slot = slot_number d c.slot; cap = c.cap; parent = None }) (λ (v : Seat). P v.slot v.cap) (with_seats d cs caps) (h 0 c refl) (each_seats P d cs caps (λ i x e. h (suc i) x e) k)

-- where dispatcher n is the first of the list
abbrev pub EachGiven : (ℕ → Cap → Type 0) → ℕ → List DispImage → Type 0
EachGiven P n disps = Each disps (λ d (i : DispImage). Each i.caps (λ k c. P (slot_number (n + d) c.slot) c.cap))

rest_given : (P : ℕ → Cap → Type 0) (n : ℕ) (x : DispImage) (xs : List DispImage) → EachGiven P n (x ∷ xs) → EachGiven P (n + 1) xs
rest_given P n x xs h d i e k c f = let z : n + suc d ≡ (n + 1) + d = omega arith in subst (λ m. P (slot_number m c.slot) c.cap) z (h (suc d) i e k c f)

first_given : (P : ℕ → Cap → Type 0) (n : ℕ) (x : DispImage) (xs : List DispImage) → EachGiven P n (x ∷ xs) → Each x.caps (λ k c. P (slot_number n c.slot) c.cap)
first_given P n x xs h k c f = let z : n + 0 ≡ n = omega arith in subst (λ m. P (slot_number m c.slot) c.cap) z (h 0 x refl k c f)

pub each_from : (P : ℕ → Cap → Type 0) (n : ℕ) (disps : List DispImage) → EachGiven P n disps → EachCap P (seats_from n disps)
each_from P n [] h = each_nil (λ i (v : Seat). P v.slot v.cap)
each_from P n (x ∷ xs) h = each_seats P n x.caps (seats_from (n + 1) xs) (first_given P n x xs h) (each_from P (n + 1) xs (rest_given P n x xs h))

-- slots of a dispatcher are below 16, and none is given twice
pub record AreSlots (d : DispImage) : Type 0 where
  pub below : Each d.caps (λ k (c : CapImage). c.slot < 16)
  pub differ : SlotsDiffer d.caps

unused : (caps : List Seat) (p : ℕ) → EachCap (λ slot cap. slot ≡ p → ⊥) caps → is_used caps p ≡ false
unused caps p h = by_test (is_used caps p) refl
  where
    by_test : (t : Bool) → is_used caps p ≡ t → t ≡ false
    by_test true e = let w = used_seat caps p e in absurd (h w.1.place w.0 w.1.there w.1.slot_is)
    by_test false e = refl

rest_differ : (c : CapImage) (cs : List CapImage) → SlotsDiffer (c ∷ cs) → SlotsDiffer cs
rest_differ c cs h j k x y e f g = let z = h (suc j) (suc k) x y e f g in omega (arith, z)

first_differs : (c : CapImage) (cs : List CapImage) → SlotsDiffer (c ∷ cs) → Each cs (λ k (x : CapImage). x.slot ≡ c.slot → ⊥)
first_differs c cs h k x e same = let z = h 0 (suc k) c x refl e (sym same) in omega (arith, z)

seats_forest : (d : ℕ) (cs : List CapImage) (caps : List Seat) → Each cs (λ k (c : CapImage). c.slot < 16) → SlotsDiffer cs → EachCap (λ slot cap. 16 * (d + 1) ≤ slot) caps → IsForest caps → IsForest (with_seats d cs caps)
seats_forest d [] caps below differ later f = f
seats_forest d (c ∷ cs) caps below differ later f =
    let more = seats_forest d cs caps (λ k x e. below (suc k) x e) (rest_differ c cs differ) later f in
    let low = below 0 c refl in
    let others = first_differs c cs differ in
    let free = unused (with_seats d cs caps) (slot_number d c.slot) (each_seats (λ slot cap. slot ≡ slot_number d c.slot → ⊥) d cs caps (λ k x e same. others k x e (omega (arith, same))) (λ i v e same. (let l = later i v e in omega (arith, l, same, low)))) in
    put_forest (with_seats d cs caps) more (record { slot = slot_number d c.slot; cap = c.cap; parent = None }) free tt

pub from_forest : (n : ℕ) (disps : List DispImage) → Each disps (λ d i. AreSlots i) → IsForest (seats_from n disps)
from_forest n [] h = record { ascending = ascends_nil seat_slot; parents = each_nil _; roots = (λ m. m, each_nil _) }
from_forest n (x ∷ xs) h =
    let first = h 0 x refl in
    let later : EachCap (λ slot cap. 16 * (n + 1) ≤ slot) (seats_from (n + 1) xs) = each_from (λ slot cap. 16 * (n + 1) ≤ slot) (n + 1) xs (λ d i e k c f. omega arith) in
    seats_forest n x.caps (seats_from (n + 1) xs) first.below first.differ later (from_forest (n + 1) xs (λ d i e. h (suc d) i e))
