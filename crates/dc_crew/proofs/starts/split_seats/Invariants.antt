use Rattle.std.proofs.Common.{◌≡◌, ◌≤◌, ◌+◌, length, vec_capacity}
use Rattle.dc_logs.specs.Rests.{AllOf}
use Rattle.dc_crew.specs.Crews.{IsNew, AreNumbered}
use Rattle.dc_crew.specs.Seats.{IsSeat}
use Rattle.dc_crew.specs.Splits.{having_made_more}
use Rattle.dc_crew.proofs.starts.split_seats.Given as goal

abbrev pub invariant-loop : goal.invariant-loop
invariant-loop l = record {
  of : AllOf (IsSeat l.stage) l.seats.items;
  new : AllOf (IsNew l.room) l.seats.items;
  numbers : AreNumbered l.initial.first.made l.seats.items;
  count : length l.seats.items ≡ l.counter;
  same : l.first ≡ having_made_more l.initial.first l.counter;
  room : l.count + 1 ≤ vec_capacity l.seats;
}
