use Rattle.dc_spelling.proofs.Journals.{spelled_reads}
use Rattle.dc_spelling.proofs.what_is_spelled_is_read.Goals as goal

pub returns : goal.returns
returns c = spelled_reads
