use Rattle.std.proofs.Common.{◌≡◌, ◌++◌, flat_map}
use Rattle.std.specs.List.{range_with_len}
use Rattle.dc_gen.specs.Scripts.{attaching}
use Rattle.dc_gen.proofs.scripts.push_attached.Given as goal

abbrev pub invariant-loop-core : goal.invariant-loop-core
invariant-loop-core l = l.script ≡ l.fn.script ++ flat_map attaching (range_with_len 8 l.core)
