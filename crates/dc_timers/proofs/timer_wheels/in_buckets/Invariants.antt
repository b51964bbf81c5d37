use Rattle.dc_timers.proofs.Turning.{IsMoved}
use Rattle.dc_timers.proofs.timer_wheels.in_buckets.Given as goal

abbrev pub invariant-loop-i : goal.invariant-loop-i
invariant-loop-i l = IsMoved l.timers l.i l.buckets
