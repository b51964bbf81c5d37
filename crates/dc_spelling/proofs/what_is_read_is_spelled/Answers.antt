use Rattle.dc_base.specs.EntryText.{journal_text}
use Rattle.dc_spelling.proofs.ReadLines.{journal_told}
use Rattle.dc_spelling.proofs.what_is_read_is_spelled.Goals as goal

pub returns-clause-lines : goal.returns-clause-lines
returns-clause-lines c = λ text es is. (journal_told text es is).lined

pub returns-clause-ranges : goal.returns-clause-ranges
returns-clause-ranges c = λ text es is. (journal_told text es is).low

pub returns-clause-text : goal.returns-clause-text
unfolding journal_text
returns-clause-text c = λ text es is. let told = journal_told text es is in (told.rest, told.same, told.ends)
