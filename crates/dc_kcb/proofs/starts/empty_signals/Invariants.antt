use Rattle.std.proofs.Common.{◌≡◌, None, replicate}
use Rattle.dc_kcb.proofs.starts.empty_signals.Given as goal

abbrev pub invariant-loop : goal.invariant-loop
invariant-loop l = l.signals.items ≡ replicate l.counter None
