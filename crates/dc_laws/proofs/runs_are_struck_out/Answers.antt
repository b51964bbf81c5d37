use Rattle.dc_base.proofs.RunLaws.{run-struck}
use Rattle.dc_laws.proofs.runs_are_struck_out.Goals as goal

pub returns : goal.returns
returns c = run-struck
