-- The logs of seats, one after another.
use Rattle.std.proofs.Common.{◌≡◌, ℕ, suc, zero, ◌<◌, List, [], ◌∷◌, inl, inr, length, get_or, subst, arith}
use Rattle.dc_crew.specs.declared.seats.Seat.{Seat}
use Rattle.dc_rests.specs.Settling.{HasFull, IsFull}

-- the seat at this place has a full log
pub full_at : (xs : List Seat) (i : ℕ) (s : Seat) → i < length xs → s ≡ get_or xs i s → IsFull s.log → HasFull xs
full_at [] i s h e f = absurd (omega arith)
full_at (x ∷ xs) zero s h e f = inl (subst (λ (z : Seat). IsFull z.log) e f)
full_at (x ∷ xs) (suc i) s h e f = inr (full_at xs i s (omega arith) e f)
