use Rattle.dc_kcb.proofs.Disps.{disp_is}
use Rattle.dc_kcb.proofs.fields.dispatchers_are_read.Goals as goal

pub returns : goal.returns
returns c = disp_is
