use Rattle.std.proofs.Common.{◌≡◌, ◌≤◌, ◌+◌, List, length, vec_capacity}
use Rattle.dc_crew.specs.declared.seats.Seat.{Seat}
use Rattle.dc_crew.specs.Laters.{Pairs}
use Rattle.dc_crew.specs.Machines.{Staged}
use Rattle.dc_crew.specs.Started.{IsStarted}
use Rattle.dc_crew.proofs.Homes.{IsPartly}
use Rattle.dc_crew.proofs.crews.finish_all.Given as goal

abbrev pub decreases-loop-seats : goal.decreases-loop-seats
decreases-loop-seats g l = length l.started.items

abbrev pub invariant-loop-seats : goal.invariant-loop-seats
invariant-loop-seats g l = record {
  pairs : (st : Staged) (before : List Seat) → Pairs (IsStarted st) before l.fn.started.items → IsPartly st before l.seats.items l.started.items;
  room : length l.started.items + length l.seats.items ≤ vec_capacity l.seats;
  started_room : vec_capacity l.started ≡ vec_capacity l.fn.started;
}
