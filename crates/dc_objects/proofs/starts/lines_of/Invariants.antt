use Rattle.std.proofs.Common.{◌≡◌, replicate}
use Rattle.dc_base.specs.States.{idle_wire}
use Rattle.dc_objects.proofs.starts.lines_of.Given as goal

abbrev pub invariant-loop-at : goal.invariant-loop-at
invariant-loop-at l = l.lines.items ≡ replicate l._at idle_wire
