use Rattle.dc_journal_laws.proofs.Holding.{released_in_time, adopted_in_time}
use Rattle.dc_journal_laws.proofs.Answering.{started_in_time}
use Rattle.dc_journal_laws.proofs.clocks_are_shown.Goals as goal

pub returns-clause-released : goal.returns-clause-released
returns-clause-released c = released_in_time

pub returns-clause-adopted : goal.returns-clause-adopted
returns-clause-adopted c = adopted_in_time

pub returns-clause-started : goal.returns-clause-started
returns-clause-started c = started_in_time
