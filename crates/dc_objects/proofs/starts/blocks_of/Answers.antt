-- Each block is one of a valid image.
use Rattle.std.proofs.Common.{◌≡◌, ℕ, ◌<◌, List, Some, sym, ap, ◌∙◌, length, get_or, arith}
use Rattle.std.proofs.lemmas.Option.{slice_get-get_or}
use Rattle.dc_base.specs.declared.images.BlockImage.{BlockImage}
use Rattle.dc_base.specs.declared.images.Image.{Image}
use Rattle.dc_base.specs.Valid.{IsValid}
use Rattle.dc_kcb.specs.Starts.{BootsIn}
use Rattle.dc_objects.proofs.starts.blocks_of.Goals as goal

boots_at : (image : Image) (xs : List BlockImage) (at : ℕ) (d : BlockImage) → IsValid image → xs ≡ image.blocks → at < length image.blocks → d ≡ get_or xs at d → BootsIn d
boots_at image xs at d valid e h is =
    let there = slice_get-get_or image.blocks at d h in
    let same : d ≡ get_or image.blocks at d = is ∙ ap (λ (ys : List BlockImage). get_or ys at d) e in
    (image, at, valid.blocks at d (there ∙ ap (λ (x : BlockImage). Some x) (sym same)))

pub block_of-requires-clause-boots : goal.block_of-requires-clause-boots
block_of-requires-clause-boots g c κs within = boots_at c.args.image.now _ c.loop-at.at c.index-as_slice-at.result c.requires.valid c.as_slice-in-loop-at.ensures (omega arith) c.index-as_slice-at.is
