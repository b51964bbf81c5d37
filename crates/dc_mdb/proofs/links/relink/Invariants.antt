use Rattle.std.proofs.Common.{◌≡◌, ◌++◌, map, take, drop}
use Rattle.dc_mdb.specs.Links.{with_link}
use Rattle.dc_mdb.proofs.links.relink.Given as goal

abbrev pub invariant-loop-i : goal.invariant-loop-i
invariant-loop-i l = l.links ≡ map (with_link l.s l.up) (take l.i l.initial.links) ++ drop l.i l.initial.links
