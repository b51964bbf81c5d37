use Rattle.std.proofs.Common.{◌≡◌, List, ap, length, ◌∙◌, arith}
use Rattle.std.specs.Prelude.{sum_by}
use Rattle.std.proofs.lemmas.List.{take_all}
use Rattle.dc_base.specs.Report.{latches_of}
use Rattle.dc_base.specs.States.{Block}
use Rattle.dc_objects.specs.States.{state_of}
use Rattle.dc_report.proofs.CountedLatches.{in_block, block_more, block_within}
use Rattle.dc_report.proofs.latches.latches.Goals as goal

pub overflow_add-latches : goal.overflow_add-latches
overflow_add-latches g c =
    let s = state_of c.args.objects.now in
    let blocks = c.as_slice-block-items.result.now in
    let same = c.as_slice-block-items.ensures.value in
    let here = c.latches_in-latches.ensures in
    let few = block_within s c.args.l blocks c.loop-block.block-index c.block-item.result c.requires.shapes same c.loop-block-test.true c.block-item.is in
    let many : length blocks ≡ length s.blocks = ap (λ (bs : List Block). length bs) same in
    let all = c.requires.settled.blocks in
    let limit = c.requires.settled.limits.blocks.1 in
    let at = c.loop-block-test.true in
    let most = c.loop-block.invariant.most in
    omega (arith, here, few, many, all, limit, at, most)

pub loop-block-preserved : goal.loop-block-preserved
loop-block-preserved g c =
    let s = state_of c.args.objects.now in
    let blocks = c.as_slice-block-items.result.now in
    let here = c.latches_in-latches.ensures in
    let few = block_within s c.args.l blocks c.loop-block.block-index c.block-item.result c.requires.shapes c.as_slice-block-items.ensures.value c.loop-block-test.true c.block-item.is in
    let more = block_more c.args.l blocks c.loop-block.block-index c.block-item.result c.loop-block-test.true c.block-item.is in
    let so_far = c.loop-block.invariant.counted in
    let most = c.loop-block.invariant.most in
    record { counted = omega (arith, here, more, so_far); most = omega (arith, here, few, most) }

pub returns : goal.returns
unfolding latches_of
returns g c = c.loop-block.invariant.counted ∙ ap (sum_by (in_block c.args.l)) (take_all c.loop-block.block-index c.as_slice-block-items.result.now c.loop-block-test.false ∙ c.as_slice-block-items.ensures.value)
