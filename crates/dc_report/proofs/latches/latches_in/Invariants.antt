use Rattle.std.proofs.Common.{◌≡◌, ◌≤◌, take}
use Rattle.std.specs.Prelude.{count_by}
use Rattle.dc_base.specs.Report.{is_latch_of}
use Rattle.dc_report.proofs.latches.latches_in.Given as goal

-- the latches of the line among the signals so far
abbrev pub invariant-loop-s : goal.invariant-loop-s
invariant-loop-s g l = record {
  counted : l.latches ≡ count_by (is_latch_of l.l) (take l.s l.block.control.parts.signals);
  most : l.latches ≤ l.s;
}
