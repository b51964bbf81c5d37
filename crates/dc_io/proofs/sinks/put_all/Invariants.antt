use Rattle.std.proofs.Common.{length, ◌-◌, ◌≤◌, take}
use Rattle.dc_io.specs.Told.{Adds}
use Rattle.dc_io.proofs.sinks.put_all.Given as goal

-- the bytes up to `at` are taken, and nothing else
abbrev pub invariant-loop-at : goal.invariant-loop-at
invariant-loop-at g l = record {
  within : l.at ≤ length l.piece;
  taken : Adds (g.S.Sink.told l.initial.sink) (g.S.Sink.told l.sink) (take l.at l.piece);
  grows : g.S.Sink.faults l.initial.sink ≤ g.S.Sink.faults l.sink;
}

abbrev pub decreases-loop-at : goal.decreases-loop-at
decreases-loop-at g l = length l.piece - l.at
