use Rattle.std.proofs.Common.{◌≡◌, ◌+◌, ◌≤◌, vec_len}
use Rattle.dc_base.specs.Limits.{longest_file}
use Rattle.dc_base.specs.JournalText.{journal_of}
use Rattle.dc_text.specs.Rest.{lines_left, most_left}
use Rattle.dc_journal.specs.Readings.{read_with}
use Rattle.dc_journal.proofs.journals.read_journal.Given as goal

-- the entries read, and those of the rest, are the journal's
abbrev pub invariant-loop-rest : goal.invariant-loop-rest
invariant-loop-rest l = record {
  told : read_with l.entries.items (lines_left l.rest) ≡ journal_of l.fn.bytes;
  room : vec_len l.entries + most_left l.rest ≤ longest_file + 1;
}

abbrev pub decreases-loop-rest : goal.decreases-loop-rest
decreases-loop-rest l = most_left l.rest
