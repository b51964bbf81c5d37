-- One more.
use Rattle.std.proofs.Common.{arith}
use Rattle.std.proofs.lemmas.List.FromFn.{map-range_with_len_more}
use Rattle.dc_base.specs.Generated.{generated_block}
use Rattle.dc_gen.proofs.images.blocks.Goals as goal

pub loop-block-preserved : goal.loop-block-preserved
loop-block-preserved c =
    let e = map-range_with_len_more generated_block 0 c.loop-block.block c.loop-block.block (omega arith) in
    cc (c.in_ok-push.ensures.ok, c.in_ok-block_of.ensures)
