use Rattle.dc_crew.proofs.at_work.go_and_tell.Goals as goal

pub tell_quiet-requires-clause-work : goal.tell_quiet-requires-clause-work
tell_quiet-requires-clause-work c = (c.requires.work.0, c.round_of-round.ensures c.requires.work.0 c.requires.work.1)

pub returns-else-round : goal.returns-else-round
returns-else-round c s w = c.tell_quiet.ensures s (c.round_of-round.ensures s w)
