use Rattle.dc_base.proofs.RunLaws.{run_of-prefix}
use Rattle.dc_laws.proofs.prefixes_are_runs.Goals as goal

pub returns : goal.returns
returns c = run_of-prefix
