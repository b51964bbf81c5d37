use Rattle.dc_ready.proofs.Mending.{mending-begun, mending-more, mending-done}
use Rattle.dc_ready.proofs.heaps.put_leaf.Goals as goal

pub loop-at-init : goal.loop-at-init
loop-at-init c = mending-begun c.args.nodes.now c.args.d c.args.leaf c.told-nodes c.requires.below c.requires.heap

pub loop-at-preserved : goal.loop-at-preserved
loop-at-preserved c = rw c.winner.ensures (mending-more c.loop-at.nodes c.loop-at.at c.args.nodes.now c.args.d c.args.leaf c.loop-at-test.true c.loop-at.invariant)

pub returns-clause-heap : goal.returns-clause-heap
returns-clause-heap c = mending-done c.loop-at.nodes c.loop-at.at c.args.nodes.now c.args.d c.args.leaf c.loop-at-test.false c.loop-at.invariant
