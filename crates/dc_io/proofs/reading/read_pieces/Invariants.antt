use Rattle.std.proofs.Common.{length, ◌-◌, ◌≤◌}
use Rattle.std.specs.Io.KnownBytes.{Consumes}
use Rattle.dc_io.proofs.reading.read_pieces.Given as goal

-- what was read stands in `into`, and the rest is what remains
abbrev pub invariant-loop-file : goal.invariant-loop-file
invariant-loop-file g l = record {
  within : length l.into.items ≤ 33554433;
  read : Consumes (g.R.Read.remaining l.fn.file) (g.R.Read.remaining l.file) l.into.items;
}

abbrev pub decreases-loop-file : goal.decreases-loop-file
decreases-loop-file g l = 33554433 - length l.into.items
