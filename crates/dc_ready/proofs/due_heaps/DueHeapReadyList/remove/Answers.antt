use Rattle.std.proofs.Common.{sym, ◌∙◌}
use Rattle.dc_ready.proofs.Listed.{below-listed}
use Rattle.dc_ready.proofs.Leaves.{heap-without, heap-same}
use Rattle.dc_ready.proofs.due_heaps.DueHeapReadyList.remove.Goals as goal

pub put_leaf-requires-clause-below : goal.put_leaf-requires-clause-below
put_leaf-requires-clause-below c = below-listed 16 c.args.d.0 c.self.inside.arrivals c.self.invariant.once (sym c.remove-there.ensures.there ∙ c.if-there.true)

pub invariant_of-self : goal.invariant_of-self
invariant_of-self c = heap-without c.self.inside.nodes c.put_leaf.new.nodes c.self.inside.arrivals c.remove-there.new.self c.self.invariant c.args.d.0 c.put_leaf.ensures.size c.put_leaf.ensures.heap c.remove-there.ensures.rest c.put_leaf.ensures.leaves

pub invariant_of-self-else-there : goal.invariant_of-self-else-there
invariant_of-self-else-there c = heap-same c.self.inside.nodes c.self.inside.arrivals c.remove-there.new.self c.args.d.0 c.self.invariant c.remove-there.ensures.rest (sym c.remove-there.ensures.there ∙ c.if-there.false)
