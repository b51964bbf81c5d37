use Rattle.dc_objects.specs.States.{state_of}
use Rattle.dc_report.proofs.Drops.{read_at, none_at}
use Rattle.dc_report.proofs.PlaceLaws.{part_told, parts_over, no_block}
use Rattle.dc_report.proofs.Telling.{instead}
use Rattle.dc_report.proofs.blocks.within.Goals as goal

pub returns-in_default : goal.returns-in_default
returns-in_default g c = instead _ _ _ _ (no_block (state_of c.args.objects.now) c.args.b c.args.part (none_at _ _ c.args.b c.deref.ensures.value c.in_default.ensures.lookup.3)) c.channel.ensures

pub tell_part-requires-clause-shape : goal.tell_part-requires-clause-shape
tell_part-requires-clause-shape g c κs within =
    let got = c.in-Some.ensures.lookup in
    c.requires.shapes c.args.b c.in-Some.inside.now (read_at _ _ c.args.b c.in-Some.inside.now c.deref.ensures.value got.3.0 got.1)

pub tell_part-requires-clause-ports : goal.tell_part-requires-clause-ports
tell_part-requires-clause-ports g c κs within =
    let got = c.in-Some.ensures.lookup in
    c.requires.ports c.args.b c.in-Some.inside.now (read_at _ _ c.args.b c.in-Some.inside.now c.deref.ensures.value got.3.0 got.1)

pub tell_part-requires-clause-caps : goal.tell_part-requires-clause-caps
tell_part-requires-clause-caps g c κs within =
    let got = c.in-Some.ensures.lookup in
    c.requires.caps c.args.b c.in-Some.inside.now (read_at _ _ c.args.b c.in-Some.inside.now c.deref.ensures.value got.3.0 got.1)

pub returns-in-Some-tell_part : goal.returns-in-Some-tell_part
returns-in-Some-tell_part g c =
    let got = c.in-Some.ensures.lookup in
    let x = c.in-Some.inside.now in
    part_told (state_of c.args.objects.now) c.args.b x c.args.part c.in-Some-tell_part.next c.in-Some-tell_part.line (read_at _ _ c.args.b x c.deref.ensures.value got.3.0 got.1) c.in-Some-tell_part.ensures

pub returns-in-None : goal.returns-in-None
returns-in-None g c =
    let got = c.in-Some.ensures.lookup in
    let x = c.in-Some.inside.now in
    instead _ _ _ _ (parts_over (state_of c.args.objects.now) c.args.b x c.args.part (read_at _ _ c.args.b x c.deref.ensures.value got.3.0 got.1) c.in-None.ensures) c.block.ensures
