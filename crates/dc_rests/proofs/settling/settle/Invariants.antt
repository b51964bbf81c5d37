use Rattle.std.proofs.Common.{◌≡◌}
use Rattle.dc_crew.specs.Crews.{IsCrew}
use Rattle.dc_crew.specs.Laters.{IsLaterSeat, Pairs}
use Rattle.dc_rests.proofs.settling.settle.Given as goal

abbrev pub invariant-loop : goal.invariant-loop
invariant-loop g l = record {
  may_go : (goal.iterator-loop g).can_next l.iterator' × (goal.iterator-loop g).is_finite l.iterator';
  crew : IsCrew l.stage l.seats.items l.script;
  script : IsLaterSeat l.stage l.fn.script l.script;
  log : l.script.log ≡ l.fn.script.log;
  seats : Pairs (IsLaterSeat l.stage) l.fn.seats.items l.seats.items;
}
