use Rattle.dc_runs.proofs.Beginnings.{first_lawful, rest_lawful, after_parts}
use Rattle.dc_runs.proofs.histories.beginnings_are_lawful.Goals as goal

pub returns-clause-first : goal.returns-clause-first
returns-clause-first c = first_lawful

pub returns-clause-rest : goal.returns-clause-rest
returns-clause-rest c = rest_lawful

pub returns-clause-state : goal.returns-clause-state
returns-clause-state c = after_parts
