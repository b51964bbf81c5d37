use Rattle.std.proofs.Common.{◌≡◌}
use Rattle.dc_bodies.proofs.Firsts.{first_from}
use Rattle.dc_bodies.proofs.nexts.first_runnable.Given as goal

-- no block so far is runnable
abbrev pub invariant-loop-i : goal.invariant-loop-i
invariant-loop-i g l = first_from (g.B.Blocks.seen l.fn.blocks) l.fn.core.clock l.i l.fn.core.share ≡ first_from (g.B.Blocks.seen l.fn.blocks) l.fn.core.clock 0 l.fn.core.share
