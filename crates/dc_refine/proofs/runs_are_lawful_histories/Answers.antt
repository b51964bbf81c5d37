use Rattle.dc_refine.proofs.OwnSchedules.{run_lawful, run_leads}
use Rattle.dc_refine.proofs.runs_are_lawful_histories.Goals as goal

pub returns-clause-lawful : goal.returns-clause-lawful
returns-clause-lawful c = run_lawful

pub returns-clause-state : goal.returns-clause-state
returns-clause-state c = run_leads
