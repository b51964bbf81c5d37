use Rattle.dc_logs.proofs.RestLaws.{quiet_now}
use Rattle.dc_logs.proofs.rests.rests_are_now.Goals as goal

pub returns : goal.returns
returns g c = λ start by. quiet_now g.R.Resting.needs_rest (g.R.Resting.at_rest start by)
