use Rattle.dc_refine.proofs.OwnSchedules.{history_journal, history_state}
use Rattle.dc_refine.proofs.lawful_histories_are_runs.Goals as goal

pub returns-clause-journal : goal.returns-clause-journal
returns-clause-journal c = history_journal

pub returns-clause-state : goal.returns-clause-state
returns-clause-state c = history_state
