use Rattle.std.proofs.Common.{◌≡◌, get_or, sym, subst, false, arith}
use Rattle.dc_base.specs.Words.{lists}
use Rattle.dc_ready.specs.Entries.{dispatchers}
use Rattle.dc_ready.proofs.Listed.{taken-once}
use Rattle.dc_ready.proofs.lists.ReadyList.restore.Goals as goal

pub add-requires-clause-below : goal.add-requires-clause-below
add-requires-clause-below g c = (taken-once c.as_slice-d-items.result.now c.args.list.now.items c.loop-d.d-index (record { 0 = 0 }, 0) c.as_slice-d-items.ensures.value c.requires (omega arith)).0

pub add-requires-clause-absent : goal.add-requires-clause-absent
add-requires-clause-absent g c = subst (λ es. lists (dispatchers es) (get_or c.as_slice-d-items.result.now c.loop-d.d-index (record { 0 = 0 }, 0)).0.0 ≡ false) (sym c.loop-d.invariant) (taken-once c.as_slice-d-items.result.now c.args.list.now.items c.loop-d.d-index (record { 0 = 0 }, 0) c.as_slice-d-items.ensures.value c.requires (omega arith)).1
