use Rattle.std.proofs.Common.{◌≤◌, length}
use Rattle.dc_base.specs.Report.{report_lines}
use Rattle.dc_objects.specs.States.{state_of}
use Rattle.dc_report.specs.Remaining.{rest}
use Rattle.dc_play.specs.Telling.{IsTelling}
use Rattle.dc_play.proofs.reporting.write_lines.Given as goal

-- the lines before those that are left are written
abbrev pub invariant-loop-line : goal.invariant-loop-line
invariant-loop-line g l = record {
  telling : IsTelling (report_lines (state_of l.objects)) (rest l.report (state_of l.objects)) (g.S.Sink.told l.initial.sink) (g.S.Sink.told l.sink);
  grow : g.S.Sink.faults l.initial.sink ≤ g.S.Sink.faults l.sink;
}

-- each line leaves one less
abbrev pub decreases-loop-line : goal.decreases-loop-line
decreases-loop-line g l = length (rest l.report (state_of l.objects))
