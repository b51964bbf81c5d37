use Rattle.std.proofs.Common.{◌≡◌, ◌≤◌, ◌+◌, length, vec_capacity}
use Rattle.dc_logs.specs.Rests.{AllOf}
use Rattle.dc_crew.specs.Seats.{IsCoreSeat}
use Rattle.dc_crew.proofs.Homes.{HaveStarted}
use Rattle.dc_crew.proofs.crews.start_all.Given as goal

abbrev pub decreases-loop-seats : goal.decreases-loop-seats
decreases-loop-seats g l = length l.seats.items

abbrev pub invariant-loop-seats : goal.invariant-loop-seats
invariant-loop-seats g l = record {
  rest : AllOf (IsCoreSeat l.stage) l.seats.items;
  pairs : HaveStarted l.stage l.fn.seats.items l.seats.items l.started.items;
  room : length l.seats.items + length l.started.items ≤ vec_capacity l.started;
  seats_room : vec_capacity l.seats ≡ vec_capacity l.fn.seats;
  started_room : vec_capacity l.started ≡ vec_capacity l.fn.started;
}
