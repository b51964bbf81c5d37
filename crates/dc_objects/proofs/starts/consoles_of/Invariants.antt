use Rattle.std.proofs.Common.{◌≡◌, [], take, map}
use Rattle.dc_base.specs.declared.images.BlockImage.{BlockImage}
use Rattle.dc_objects.proofs.starts.consoles_of.Given as goal

abbrev pub invariant-loop-block : goal.invariant-loop-block
invariant-loop-block l = l.consoles.items ≡ map (λ (b : BlockImage). []) (take l._block-index l.blocks)
