use Rattle.dc_runs.proofs.Fruitless.{core_rests, cores_rest}
use Rattle.dc_runs.proofs.resting.fruitless_cores_rest.Goals as goal

pub returns-clause-core : goal.returns-clause-core
returns-clause-core c = core_rests

pub returns-clause-cores : goal.returns-clause-cores
returns-clause-cores c = cores_rest
