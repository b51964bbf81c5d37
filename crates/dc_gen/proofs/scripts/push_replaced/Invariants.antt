use Rattle.std.proofs.Common.{◌≡◌, ◌++◌, map}
use Rattle.std.specs.List.{range_with_len}
use Rattle.dc_gen.specs.Scripts.{replacing}
use Rattle.dc_gen.proofs.scripts.push_replaced.Given as goal

abbrev pub invariant-loop-core : goal.invariant-loop-core
invariant-loop-core l = l.script ≡ l.fn.script ++ map replacing (range_with_len 0 l.core)
