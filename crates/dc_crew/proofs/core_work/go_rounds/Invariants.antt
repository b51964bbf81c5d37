use Rattle.dc_crew.specs.AtWork.{IsAtWork}
use Rattle.dc_crew.specs.declared.seats.Seat.{Seat}
use Rattle.dc_crew.proofs.core_work.go_rounds.Given as goal

abbrev pub invariant-loop : goal.invariant-loop
invariant-loop g l = record {
  may_go : (goal.iterator-loop g).can_next l.iterator' × (goal.iterator-loop g).is_finite l.iterator';
  work : (s : Seat) → IsAtWork l.stage s l.initial.work → IsAtWork l.stage s l.work;
}
