use Rattle.std.proofs.Common.{◌≡◌, take, map}
use Rattle.dc_base.specs.States.{block_started}
use Rattle.dc_objects.proofs.starts.blocks_of.Given as goal

abbrev pub invariant-loop-at : goal.invariant-loop-at
invariant-loop-at g l = l.blocks.items ≡ map (block_started l.image.cores) (take l.at l.image.blocks)
