use Rattle.std.proofs.Common.{arith, ap, ◌∙◌}
use Rattle.dc_base.specs.TextWords.{lines_of}
use Rattle.dc_base.specs.JournalText.{journal_of, said_from, entry_of}
use Rattle.dc_journal.specs.Readings.{read_with}
use Rattle.dc_text.proofs.Joining.{joined_none}
use Rattle.dc_journal.proofs.journals.read_journal.Goals as goal

pub loop-rest-init : goal.loop-rest-init
unfolding journal_of
loop-rest-init c = record {
  told = ap (λ es. read_with es (lines_of c.args.bytes.now)) c.new-entries.ensures.items ∙ joined_none (said_from entry_of 0 (lines_of c.args.bytes.now));
  room = omega arith;
}
