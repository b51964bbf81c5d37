use Rattle.std.proofs.Common.{◌≡◌, take}
use Rattle.dc_ready.specs.Entries.{entries_of}
use Rattle.dc_kcb.specs.Starts.{dues_from}
use Rattle.dc_kcb.proofs.starts.all_ready.Given as goal

abbrev pub invariant-loop-d : goal.invariant-loop-d
invariant-loop-d l = entries_of l.ready.items ≡ dues_from 0 (take l.d l.disps)
