use Rattle.dc_refine.proofs.StartOpens.{start_opens, origins_same}
use Rattle.dc_refine.proofs.starts_are_openings.Goals as goal

pub returns-clause-opening : goal.returns-clause-opening
returns-clause-opening c = start_opens

pub returns-clause-same : goal.returns-clause-same
returns-clause-same c = origins_same
