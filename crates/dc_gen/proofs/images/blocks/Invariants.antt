use Rattle.std.proofs.Common.{◌≡◌, map}
use Rattle.std.specs.List.{range_with_len}
use Rattle.dc_base.specs.Generated.{generated_block}
use Rattle.dc_gen.proofs.images.blocks.Given as goal

abbrev pub invariant-loop-block : goal.invariant-loop-block
invariant-loop-block l = l.blocks ≡ map generated_block (range_with_len 0 l.block)
