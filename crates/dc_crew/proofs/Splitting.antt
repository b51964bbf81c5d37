-- Seats that are made one after another.
use Rattle.std.proofs.Common.{◌≡◌, ℕ, suc, ◌+◌, List, [], ◌∷◌, ◌++◌, length, arith}
use Rattle.dc_crew.specs.declared.seats.Seat.{Seat}
use Rattle.dc_crew.specs.Crews.{AreNumbered}

-- the seat of the next actor goes behind the others
pub numbers_snoc : (c : ℕ) (ss : List Seat) (s : Seat) → s.pass.actor ≡ c + length ss → AreNumbered c ss → AreNumbered c (ss ++ s ∷ [])
numbers_snoc c [] s e n = (omega (arith, e), tt)
numbers_snoc c (t ∷ ss) s e n = (n.0, numbers_snoc (suc c) ss s (omega (arith, e)) n.1)
