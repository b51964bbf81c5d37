use Rattle.std.proofs.Common.{◌≡◌, ◌-◌, length}
use Rattle.dc_mdb.specs.Forests.{reaches_in}
use Rattle.dc_mdb.specs.Links.{nodes_of}
use Rattle.dc_mdb.proofs.links.is_below.Given as goal

abbrev pub invariant-loop : goal.invariant-loop
invariant-loop l = reaches_in (length l.links) (nodes_of l.links) l.s l.fn.parent ≡ reaches_in (length l.links - l.counter) (nodes_of l.links) l.s l.above
