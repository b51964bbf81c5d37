use Rattle.dc_objects.specs.States.{state_of}
use Rattle.dc_report.proofs.Drops.{read_at, none_at}
use Rattle.dc_report.proofs.PlaceLaws.{block_told, blocks_over}
use Rattle.dc_report.proofs.Telling.{instead, told_as}
use Rattle.dc_report.proofs.blocks.block.Goals as goal

pub returns-in-Some : goal.returns-in-Some
returns-in-Some g c =
    let s = state_of c.args.objects.now in
    let got = c.in-Some.ensures.lookup in
    told_as _ _ _ _ (block_told s c.args.b c.in-Some.block.now (read_at _ _ c.args.b c.in-Some.block.now c.deref.ensures.value got.3.0 got.1)) c.head_line.ensures

pub returns-in-None : goal.returns-in-None
returns-in-None g c = instead _ _ _ _ (blocks_over (state_of c.args.objects.now) c.args.b (none_at _ _ c.args.b c.deref.ensures.value c.in-None.ensures.lookup.3)) c.channel.ensures
