use Rattle.dc_objects.specs.States.{state_of}
use Rattle.dc_report.proofs.Drops.{read_at, none_at}
use Rattle.dc_report.proofs.PlaceLaws.{core_told, cores_over}
use Rattle.dc_report.proofs.Telling.{instead, told_as}
use Rattle.dc_report.proofs.cores.core.Goals as goal

pub returns-in-Some : goal.returns-in-Some
returns-in-Some g c =
    let s = state_of c.args.objects.now in
    let got = c.in-Some.ensures.lookup in
    told_as _ _ _ _ (core_told s c.args.c c.in-Some.core.now (read_at _ _ c.args.c c.in-Some.core.now c.deref.ensures.value got.3.0 got.1)) c.core_line.ensures

pub returns-in-None : goal.returns-in-None
returns-in-None g c = instead _ _ _ _ (cores_over (state_of c.args.objects.now) c.args.c (none_at _ _ c.args.c c.deref.ensures.value c.in-None.ensures.lookup.3)) c.block.ensures
