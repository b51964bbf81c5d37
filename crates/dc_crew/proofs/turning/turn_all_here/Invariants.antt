use Rattle.std.proofs.Common.{◌≡◌, length, vec_capacity}
use Rattle.dc_crew.proofs.TurnedCores.{AreTurned}
use Rattle.dc_crew.proofs.turning.turn_all_here.Given as goal

abbrev pub invariant-loop : goal.invariant-loop
invariant-loop g l = record {
  turned : AreTurned l.stage l.initial.started.items l.started.items l.counter;
  many : length l.started.items ≡ length l.initial.started.items;
  room : vec_capacity l.started ≡ vec_capacity l.initial.started;
}
