use Rattle.dc_logs.proofs.RestLaws.{one_rest, one_other}
use Rattle.dc_logs.proofs.rests.rests_grow.Goals as goal

pub returns-clause-rested : goal.returns-clause-rested
returns-clause-rested g c = λ start by. one_rest g.R.Resting.needs_rest (g.R.Resting.at_rest start by)

pub returns-clause-other : goal.returns-clause-other
returns-clause-other g c = λ start by. one_other g.R.Resting.needs_rest (g.R.Resting.at_rest start by)
