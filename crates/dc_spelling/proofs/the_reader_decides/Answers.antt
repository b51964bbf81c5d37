use Rattle.dc_spelling.proofs.Deciding.{read_journal, journal_read}
use Rattle.dc_spelling.proofs.the_reader_decides.Goals as goal

pub returns : goal.returns
returns c = λ text es. (read_journal text es, journal_read text es)
