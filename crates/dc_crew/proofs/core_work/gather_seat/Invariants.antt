use Rattle.dc_crew.specs.Laters.{IsLaterSeat}
use Rattle.dc_crew.specs.Seats.{IsCoreSeat}
use Rattle.dc_crew.proofs.core_work.gather_seat.Given as goal

abbrev pub invariant-loop : goal.invariant-loop
invariant-loop g l = record {
  may_go : (goal.iterator-loop g).can_next l.iterator' × (goal.iterator-loop g).is_finite l.iterator';
  core : IsCoreSeat l.stage l.seat;
  later : IsLaterSeat l.stage l.fn.seat l.seat;
}
