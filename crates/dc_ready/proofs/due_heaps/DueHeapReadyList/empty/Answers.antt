use Rattle.dc_ready.proofs.Leaves.{empty-heap}
use Rattle.dc_ready.proofs.due_heaps.DueHeapReadyList.empty.Goals as goal

pub invariant_of-result : goal.invariant_of-result
invariant_of-result c = empty-heap c.empty.result c.empty.ensures
