use Rattle.std.proofs.Common.{◌≡◌, map, take}
use Rattle.dc_kcb.specs.Starts.{disp_of}
use Rattle.dc_kcb.proofs.starts.dispatchers.Given as goal

abbrev pub invariant-loop-disp : goal.invariant-loop-disp
invariant-loop-disp l = l.all.items ≡ map disp_of (take l.disp-index l.disps)
