use Rattle.std.proofs.Common.{◌≡◌, ◌≤◌, length}
use Rattle.dc_mdb.proofs.Slots.{first_slots}
use Rattle.dc_mdb.proofs.links.all_slots.Given as goal

abbrev pub invariant-loop-slot : goal.invariant-loop-slot
invariant-loop-slot l = record {
  items : l.slots.items ≡ first_slots l.links l.slot;
  room : length l.slots.items ≤ l.slot;
}
