use Rattle.dc_logs.proofs.RestLaws.{rests_held}
use Rattle.dc_logs.proofs.rests.rests_hold.Goals as goal

pub returns : goal.returns
returns g c = λ start by. rests_held g.R.Resting.needs_rest (g.R.Resting.at_rest start by)
