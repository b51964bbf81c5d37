use Rattle.std.proofs.Common.{◌≡◌, false, sym, subst}
use Rattle.dc_base.specs.Words.{lists}
use Rattle.dc_ready.specs.Entries.{dispatchers}
use Rattle.dc_ready.proofs.Leaves.{heap-push}
use Rattle.dc_ready.proofs.due_heaps.DueHeapReadyList.add.Goals as goal

pub invariant_of-self : goal.invariant_of-self
invariant_of-self c =
    heap-push c.self.inside.nodes c.put_leaf.new.nodes c.self.inside.arrivals c.add.new.self c.self.invariant c.args.d.0 c.put_leaf.ensures.size c.put_leaf.ensures.heap c.args.due c.add.ensures c.requires.below
    (subst (λ es. lists (dispatchers es) c.args.d.0 ≡ false) (sym c.self.view_is) c.requires.absent)
    c.put_leaf.ensures.leaves
