use Rattle.dc_logs.proofs.RestLaws.{quiet_later, rests_later, rests_kept}
use Rattle.dc_logs.proofs.rests.rests_stay.Goals as goal

pub returns-clause-seen : goal.returns-clause-seen
returns-clause-seen g c = λ start by. rests_later g.R.Resting.needs_rest (g.R.Resting.at_rest start by)

pub returns-clause-history : goal.returns-clause-history
returns-clause-history g c = λ start by. rests_kept g.R.Resting.needs_rest (g.R.Resting.at_rest start by)

pub returns-clause-quiet : goal.returns-clause-quiet
returns-clause-quiet g c = λ start by. quiet_later g.R.Resting.needs_rest (g.R.Resting.at_rest start by)
