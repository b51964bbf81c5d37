use Rattle.std.proofs.Common.{◌≡◌, ◌≤◌, ◌+◌, length, vec_capacity}
use Rattle.dc_logs.specs.Rests.{AllOf}
use Rattle.dc_crew.specs.Seats.{IsSeat}
use Rattle.dc_crew.proofs.Joining.{HavePartlyJoined}
use Rattle.dc_crew.proofs.joins.join_all.Given as goal

abbrev pub decreases-loop-other : goal.decreases-loop-other
decreases-loop-other l = length l.others.items

abbrev pub invariant-loop-other : goal.invariant-loop-other
invariant-loop-other l = record {
  rest : AllOf (IsSeat l.stage) l.others.items;
  joined : HavePartlyJoined l.initial.first l.first l.fn.others.items l.others.items l.logs.items;
  room : length l.others.items + length l.logs.items ≤ vec_capacity l.logs;
  capacity : vec_capacity l.logs ≡ vec_capacity l.fn.logs;
}
