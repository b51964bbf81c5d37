use Rattle.std.proofs.Common.{◌≡◌, take}
use Rattle.std.specs.Prelude.{not, filter}
use Rattle.dc_base.specs.Words.{lists}
use Rattle.dc_mdb.specs.Forests.{Node}
use Rattle.dc_mdb.specs.Links.{nodes_of}
use Rattle.dc_mdb.specs.Counts.{IsCounted}
use Rattle.dc_mdb.proofs.links.clear.Given as goal

abbrev pub invariant-loop-s : goal.invariant-loop-s
invariant-loop-s l = record {
  nodes : nodes_of l.links ≡ filter (λ (n : Node). not (lists (take l.s-index l.slots) n.0)) (nodes_of l.initial.links);
  counted : IsCounted l.links l.children;
}
