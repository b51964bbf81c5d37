use Rattle.std.proofs.Common.{◌≡◌, map}
use Rattle.std.specs.List.{range_with_len}
use Rattle.dc_base.specs.Generated.{generated_core}
use Rattle.dc_gen.proofs.images.cores.Given as goal

abbrev pub invariant-loop-core : goal.invariant-loop-core
invariant-loop-core l = l.cores ≡ map generated_core (range_with_len 0 l.core)
