use Rattle.std.proofs.Common.{◌≡◌}
use Rattle.dc_report.specs.Remaining.{part_lines}
use Rattle.dc_report.specs.declared.places.Part.TheVariants.{Signal}
use Rattle.dc_report.proofs.signals.signal.Given as goal

-- no signal so far holds a latch
abbrev pub invariant-loop-signal : goal.invariant-loop-signal
invariant-loop-signal g l = part_lines l.b l.block (Signal l.signal) ≡ part_lines l.b l.block (Signal l.s)
