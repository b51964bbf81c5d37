use Rattle.std.proofs.Common.{◌≡◌, [], replicate}
use Rattle.dc_kcb.proofs.starts.empty_ports.Given as goal

abbrev pub invariant-loop : goal.invariant-loop
invariant-loop l = l.ports.items ≡ replicate l.counter []
