-- Capabilities come into slots that are free.
use Rattle.std.proofs.Common.{◌≡◌, ℕ, zero, suc, ◌+◌, ◌*◌, ◌<◌, Bool, true, false, List, [], ◌∷◌, Some, None, Result, drop, refl, sym, ap, ◌∙◌, subst, arith}
use Rattle.std.specs.Prelude.{◌==◌, is_some, if◌then◌else◌, slice_get, nat_lt, OnOk}
use Rattle.std.proofs.lemmas.Bool.{ne_eqb}
use Rattle.dc_base.specs.declared.images.CapImage.{CapImage}
use Rattle.dc_base.specs.declared.images.DispImage.{DispImage}
use Rattle.dc_base.specs.Words.{Each}
use Rattle.dc_base.specs.Capabilities.{Seat, slot_number, seat_at, is_used, with_seat, with_root}
use Rattle.dc_base.specs.Parts.{with_seats, seats_from}
use Rattle.dc_caps.specs.declared.faults.CapFault.{CapFault}
use Rattle.dc_caps.specs.declared.faults.CapFault.TheVariants.{UsedSlot}
use Rattle.dc_caps.specs.Caps.{Caps}
use Rattle.dc_caps.specs.Outcomes.{answer_of, root_fault}
use Rattle.dc_kcb.specs.Starts.{AreSeatable, IsUnseated}

-- another slot stays free
free_put : (h : Seat) (ks : List Seat) (p : ℕ) → (h.slot == p) ≡ false → is_used ks p ≡ false → is_used (with_seat h ks) p ≡ false
free_put h [] p ne free = ap (λ t. is_some (if t then Some h else None)) ne
free_put h (k ∷ ks) p ne free = by_place (λ f. free_put h ks p ne f) (nat_lt h.slot k.slot)
  where
    by_slot : (t : Bool) → (is_used ks p ≡ false → is_used (with_seat h ks) p ≡ false) → is_some (if t then Some k else seat_at ks p) ≡ false → is_some (if t then Some k else seat_at (with_seat h ks) p) ≡ false
    by_slot true more f = f
    by_slot false more f = more f

    by_place : (is_used ks p ≡ false → is_used (with_seat h ks) p ≡ false) → (t : Bool) → is_used (if t then h ∷ k ∷ ks else k ∷ with_seat h ks) p ≡ false
    by_place more true = ap (λ t. is_some (if t then Some h else seat_at (k ∷ ks) p)) ne ∙ free
    by_place more false = by_slot (k.slot == p) more free

free_seats : (d : ℕ) (cs : List CapImage) (caps : List Seat) (p : ℕ) → Each cs (λ k (c : CapImage). (slot_number d c.slot == p) ≡ false) → is_used caps p ≡ false → is_used (with_seats d cs caps) p ≡ false
free_seats d [] caps p ne free = free
free_seats d (c ∷ cs) caps p ne free = free_put (record { slot = slot_number d c.slot; cap = c.cap; parent = None }) (with_seats d cs caps) p (ne 0 c refl) (free_seats d cs caps p (λ i x e. ne (suc i) x e) free)

-- the dispatchers from n on leave the slots of those before them free
free_before : (n : ℕ) (is : List DispImage) (p : ℕ) → p < 16 * n → is_used (seats_from n is) p ≡ false
free_before n [] p lt = refl
free_before n (i ∷ is) p lt = free_seats n i.caps (seats_from (n + 1) is) p (λ k c e. ne_eqb (slot_number n c.slot) p (λ same. omega arith)) (free_before (n + 1) is p (omega arith))

pub unseated_before : (d : ℕ) (is : List DispImage) → IsUnseated d (seats_from (d + 1) is)
unseated_before d is s lt = free_before (d + 1) is (slot_number d s) (omega arith)

get_dropped : {A : Type 0} (n : ℕ) (xs : List A) (j : ℕ) → slice_get (drop n xs) j ≡ slice_get xs (n + j)
get_dropped zero xs j = let z : j ≡ 0 + j = omega arith in ap (slice_get xs) z
get_dropped (suc n) [] j = refl
get_dropped (suc n) (x ∷ xs) j = let z : suc n + j ≡ suc (n + j) = omega arith in get_dropped n xs j ∙ sym (ap (slice_get (x ∷ xs)) z)

drop_one : {A : Type 0} (xs : List A) (i : ℕ) (x : A) → slice_get xs i ≡ Some x → drop i xs ≡ x ∷ drop (suc i) xs
drop_one [] i x e = absurd cc
drop_one (y ∷ ys) zero x e = let same : y ≡ x = cc in ap (λ z. z ∷ ys) same
drop_one (y ∷ ys) (suc i) x e = drop_one ys i x e

-- the slot of the next one is free
free_next : (d : ℕ) (cs : List CapImage) (caps : List Seat) → AreSeatable cs → IsUnseated d caps → (i : ℕ) (c : CapImage) → slice_get cs i ≡ Some c → is_used (with_seats d (drop (suc i) cs) caps) (slot_number d c.slot) ≡ false
free_next d cs caps are free i c e = free_seats d (drop (suc i) cs) caps (slot_number d c.slot) (λ j x f. ne_eqb (slot_number d x.slot) (slot_number d c.slot) (λ same. twice j x f (omega (arith, same)))) (free c.slot (are.below i c e))
  where
    twice : (j : ℕ) (x : CapImage) → slice_get (drop (suc i) cs) j ≡ Some x → c.slot ≡ x.slot → ⊥
    twice j x f same = let z = are.differ i (suc i + j) c x e (sym (get_dropped (suc i) cs j) ∙ f) same in omega (arith, z)

made : (r : Result (Unit {0}) CapFault) (caps : List Seat) (p : ℕ) (P : Type 0) → r ≡ answer_of (root_fault caps p) → is_used caps p ≡ false → OnOk r P → P
made r caps p P answer free ok = subst (λ (q : Result (Unit {0}) CapFault). OnOk q P) (answer ∙ ap (λ t. answer_of (if t then Some UsedSlot else None)) free) ok

-- one capability more is seated
pub seated_more : (t : Caps) (d : ℕ) (cs : List CapImage) → AreSeatable cs → IsUnseated d t.set → (i : ℕ) (c : CapImage) (old new : Caps) (r : Result (Unit {0}) CapFault) → slice_get cs i ≡ Some c → old ≡ record t { set = with_seats d (drop (suc i) cs) t.set } →
    r ≡ answer_of (root_fault old.set (slot_number d c.slot)) → OnOk r (new ≡ record old { set = with_root (slot_number d c.slot) c.cap old.set }) → new ≡ record t { set = with_seats d (drop i cs) t.set }
seated_more t d cs are free i c old new r e before answer ok =
    let set : old.set ≡ with_seats d (drop (suc i) cs) t.set = ap (λ (x : Caps). x.set) before in
    let unused : is_used old.set (slot_number d c.slot) ≡ false = ap (λ (s : List Seat). is_used s (slot_number d c.slot)) set ∙ free_next d cs t.set are free i c e in
    let after = made r old.set (slot_number d c.slot) (new ≡ record old { set = with_root (slot_number d c.slot) c.cap old.set }) answer unused ok in
    after ∙ (ap (λ (x : Caps). record x { set = with_root (slot_number d c.slot) c.cap x.set }) before ∙ ap (λ (xs : List CapImage). record t { set = with_seats d xs t.set }) (sym (drop_one cs i c e)))
