use Rattle.dc_logs.proofs.RestLaws.{no_rest}
use Rattle.dc_logs.proofs.rests.rests_begin.Goals as goal

pub returns : goal.returns
returns g c = λ start by. no_rest g.R.Resting.needs_rest (g.R.Resting.at_rest start by)
