use Rattle.std.proofs.Common.{◌≡◌}
use Rattle.dc_bodies.proofs.Dues.{due_before}
use Rattle.dc_bodies.proofs.nexts.next_due.Given as goal

-- the first due so far
abbrev pub invariant-loop-i : goal.invariant-loop-i
invariant-loop-i g l = l.least ≡ due_before (g.B.Blocks.seen l.fn.blocks) l.i l.fn.core.share
