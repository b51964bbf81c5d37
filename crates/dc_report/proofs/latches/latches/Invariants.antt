use Rattle.std.proofs.Common.{◌≡◌, ◌*◌, ◌≤◌, take}
use Rattle.std.specs.Prelude.{count_by, sum_by}
use Rattle.dc_base.specs.Report.{is_latch_of}
use Rattle.dc_base.specs.States.{Block}
use Rattle.dc_report.proofs.latches.latches.Given as goal

-- the latches of the line in the blocks so far
abbrev pub invariant-loop-block : goal.invariant-loop-block
invariant-loop-block g l = record {
  counted : l.latches ≡ sum_by (λ (x : Block). count_by (is_latch_of l.l) x.control.parts.signals) (take l.block-index l.block-items);
  most : l.latches ≤ l.block-index * 16;
}
