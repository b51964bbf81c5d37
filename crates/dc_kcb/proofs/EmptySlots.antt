-- Slots past those of the dispatchers are empty.
use Rattle.std.proofs.Common.{◌≡◌, ℕ, suc, ◌*◌, ◌<◌, ◌≤◌, false, List, [], ◌∷◌, Some, None, refl, ap, ◌∙◌, arith}
use Rattle.std.specs.Prelude.{◌==◌, if◌then◌else◌}
use Rattle.std.proofs.lemmas.Bool.{ne_eqb}
use Rattle.dc_base.specs.Words.{Each}
use Rattle.dc_base.specs.Capabilities.{Seat, seat_at, cap_at}
use Rattle.dc_caps.specs.Caps.{Caps, IsTable}

-- no seat is at a slot past the bound
pub none_past : (n s : ℕ) (caps : List Seat) → Each caps (λ i (h : Seat). h.slot < n) → n ≤ s → seat_at caps s ≡ None
none_past n s [] h le = refl
none_past n s (x ∷ xs) h le =
    let lt : x.slot < n = h 0 x refl in
    let differ : (x.slot == s) ≡ false = ne_eqb x.slot s (λ e. omega arith) in
    ap (λ t. if t then Some x else seat_at xs s) differ ∙ none_past n s xs (λ i y e. h (suc i) y e) le

no_seat : (t : Caps) (s : ℕ) → IsTable t → 256 ≤ s → seat_at t.set s ≡ None
no_seat t s is le = none_past (16 * t.disps) s t.set is.slots (let h : t.disps ≤ 16 = is.disps in omega arith)

pub no_cap_past : (t : Caps) (s : ℕ) → IsTable t → 256 ≤ s → None ≡ cap_at t.set s
no_cap_past t s is le = let e = no_seat t s is le in cc
