use Rattle.dc_logs.proofs.Beginnings.{prefix_same, prefix_through}
use Rattle.dc_logs.proofs.prefixes.prefixes_go_on.Goals as goal

pub returns-clause-same : goal.returns-clause-same
returns-clause-same c = prefix_same

pub returns-clause-through : goal.returns-clause-through
returns-clause-through c = prefix_through
