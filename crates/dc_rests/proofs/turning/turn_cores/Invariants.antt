use Rattle.std.proofs.Common.{◌≡◌, length}
use Rattle.dc_rests.proofs.TurnedCores.{AreTurned}
use Rattle.dc_rests.proofs.turning.turn_cores.Given as goal

abbrev pub invariant-loop : goal.invariant-loop
invariant-loop l = record {
  turned : AreTurned l.stage l.n l.fn.seats.items l.seats.items l.counter l.are_quiet;
  many : length l.seats.items ≡ length l.fn.seats.items;
}
