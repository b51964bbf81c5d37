use Rattle.std.proofs.Common.{◌≡◌, take, map, length}
use Rattle.dc_base.specs.declared.images.BlockImage.{BlockImage}
use Rattle.dc_boot.specs.Views.{place_of}
use Rattle.dc_boot.proofs.start.places_of.Given as goal

abbrev pub invariant-loop-block : goal.invariant-loop-block
invariant-loop-block l = record {
  told : l.places.items ≡ map (λ (b : BlockImage). place_of b.home) (take l.block-index l.blocks);
  long : length l.places.items ≡ l.block-index;
}
