use Rattle.std.proofs.Common.{length, ◌-◌, ◌≤◌, take}
use Rattle.dc_io.specs.Told.{Adds}
use Rattle.dc_io.proofs.outputs.write_front.Given as goal

-- the bytes up to `at` are taken, and nothing else
abbrev pub invariant-loop-at : goal.invariant-loop-at
invariant-loop-at g l = record {
  within : l.at ≤ length l.bytes;
  taken : Adds (g.W.Write.contents l.initial.out) (g.W.Write.contents l.out) (take l.at l.bytes);
}

abbrev pub decreases-loop-at : goal.decreases-loop-at
decreases-loop-at g l = length l.bytes - l.at
