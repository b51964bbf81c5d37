use Rattle.dc_refine.proofs.CoreStarts.{start_stands, start_agrees, start_is_of}
use Rattle.dc_refine.proofs.starts_agree.Goals as goal

pub returns-clause-stands : goal.returns-clause-stands
returns-clause-stands c = start_stands

pub returns-clause-agrees : goal.returns-clause-agrees
returns-clause-agrees c = start_agrees

pub returns-clause-terms : goal.returns-clause-terms
returns-clause-terms c = start_is_of
