use Rattle.dc_journal_laws.proofs.Exact.{said_of, is_run}
use Rattle.dc_journal_laws.proofs.sentences_say_what_runs_are.Goals as goal

pub returns : goal.returns
returns c = λ image script journal. (said_of image script journal, is_run image script journal)
