use Rattle.std.proofs.Common.{◌≡◌, take}
use Rattle.dc_ready.specs.Entries.{entries_of}
use Rattle.dc_ready.proofs.lists.ReadyList.restore.Given as goal

abbrev pub invariant-loop-d : goal.invariant-loop-d
invariant-loop-d g l = g.Self.ReadyList.listed l.ready ≡ entries_of (take l.d-index l.d-items)
