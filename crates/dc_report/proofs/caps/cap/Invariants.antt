use Rattle.std.proofs.Common.{◌≡◌}
use Rattle.dc_report.specs.Remaining.{part_lines}
use Rattle.dc_report.specs.declared.places.Part.TheVariants.{Cap}
use Rattle.dc_report.proofs.caps.cap.Given as goal

-- no slot so far is used
abbrev pub invariant-loop-slot : goal.invariant-loop-slot
invariant-loop-slot g l = part_lines l.b l.block (Cap l.slot) ≡ part_lines l.b l.block (Cap l.s)
