use Rattle.dc_hands.proofs.Calling.{touched_held, commits_entry}
use Rattle.dc_hands.proofs.commits.commit.Goals as goal

pub commit-requires-clause-held : goal.commit-requires-clause-held
commit-requires-clause-held g c κs within = touched_held c.args.stage.now c.args.pass.now c.args.entry.now c.requires.held

pub returns : goal.returns
returns g c = commits_entry c.args.stage.now c.requires.opened c.args.pass.now c.commit.new.pass c.args.entry.now c.commit.result.0 c.commit.ensures
