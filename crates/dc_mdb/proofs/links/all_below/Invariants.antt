use Rattle.std.proofs.Common.{◌≡◌, ◌≤◌, length}
use Rattle.dc_mdb.specs.Links.{nodes_of}
use Rattle.dc_mdb.proofs.Descending.{found_first}
use Rattle.dc_mdb.proofs.links.all_below.Given as goal

abbrev pub invariant-loop-slot : goal.invariant-loop-slot
invariant-loop-slot l = record {
  items : l.below.items ≡ found_first (nodes_of l.links) l.s l.links l.slot;
  room : length l.below.items ≤ l.slot;
}
