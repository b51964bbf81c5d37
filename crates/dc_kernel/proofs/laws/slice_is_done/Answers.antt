use Rattle.dc_kernel.proofs.SliceTurns.{slice_done}
use Rattle.dc_kernel.proofs.laws.slice_is_done.Goals as goal

pub returns : goal.returns
returns c = slice_done
