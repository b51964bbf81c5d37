use Rattle.dc_journal_laws.proofs.Holding.{held_once-each, made_by_holders, adopted_free, stops_end}
use Rattle.dc_journal_laws.proofs.blocks_have_one_holder.Goals as goal

pub returns-clause-once : goal.returns-clause-once
returns-clause-once c = held_once-each

pub returns-clause-holders : goal.returns-clause-holders
returns-clause-holders c = made_by_holders

pub returns-clause-adopted : goal.returns-clause-adopted
returns-clause-adopted c = adopted_free

pub returns-clause-stopped : goal.returns-clause-stopped
returns-clause-stopped c = stops_end
