-- Seats of a crew that come home again and again.
use Rattle.std.proofs.Common.{List, [], ◌∷◌}
use Rattle.dc_logs.specs.Rests.{AllOf}
use Rattle.dc_crew.specs.declared.seats.Seat.{Seat}
use Rattle.dc_crew.specs.Laters.{IsLaterSeat, Pairs}
use Rattle.dc_crew.specs.Machines.{Staged}
use Rattle.dc_crew.specs.Seats.{IsSeat}
use Rattle.dc_crew.proofs.Laters.{later_seat_same, later_seat_through}

module _ (st : Staged) where
  pub seats_same : (ss : List Seat) → AllOf (IsSeat st) ss → Pairs (IsLaterSeat st) ss ss
  seats_same [] a = tt
  seats_same (s ∷ ss) a = (later_seat_same st s a.0, seats_same ss a.1)

  pub seats_through : (ss ts us : List Seat) → Pairs (IsLaterSeat st) ss ts → Pairs (IsLaterSeat st) ts us → Pairs (IsLaterSeat st) ss us
  seats_through [] [] us p q = q
  seats_through [] (t ∷ ts) us p q = absurd p
  seats_through (s ∷ ss) [] us p q = absurd p
  seats_through (s ∷ ss) (t ∷ ts) [] p q = absurd q
  seats_through (s ∷ ss) (t ∷ ts) (u ∷ us) p q = (later_seat_through st s t u p.0 q.0, seats_through ss ts us p.1 q.1)
