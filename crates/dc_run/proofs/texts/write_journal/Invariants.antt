use Rattle.std.proofs.Common.{◌≤◌, take}
use Rattle.dc_base.specs.EntryText.{journal_text}
use Rattle.dc_io.specs.Told.{Adds}
use Rattle.dc_run.proofs.texts.write_journal.Given as goal

-- the lines of the entries before this one are written
abbrev pub invariant-loop-i : goal.invariant-loop-i
invariant-loop-i g l = record {
  text : Adds (g.S.Sink.told l.initial.sink) (g.S.Sink.told l.sink) (journal_text (take l.i l.journal));
  grow : g.S.Sink.faults l.initial.sink ≤ g.S.Sink.faults l.sink;
}
