use Rattle.dc_ready.proofs.Mending.{IsMending}
use Rattle.dc_ready.proofs.heaps.put_leaf.Given as goal

abbrev pub invariant-loop-at : goal.invariant-loop-at
invariant-loop-at l = IsMending l.nodes l.at l.fn.nodes l.d l.fn.leaf

abbrev pub decreases-loop-at : goal.decreases-loop-at
decreases-loop-at l = l.at
