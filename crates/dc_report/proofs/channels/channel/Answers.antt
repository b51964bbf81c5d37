use Rattle.dc_objects.specs.States.{state_of}
use Rattle.dc_report.proofs.Drops.{read_at, none_at}
use Rattle.dc_report.proofs.PlaceLaws.{channel_told, channels_over}
use Rattle.dc_report.proofs.Readings.{channel_is}
use Rattle.dc_report.proofs.Telling.{instead, told_as}
use Rattle.dc_report.proofs.channels.channel.Goals as goal

pub returns-in_default : goal.returns-in_default
returns-in_default g c = instead _ _ _ _ (channels_over (state_of c.args.objects.now) c.args.x (none_at _ _ c.args.x c.deref.ensures.value c.in_default.ensures.lookup.3)) c.line.ensures

pub returns : goal.returns
returns g c =
    let got = c.in-Some.ensures.lookup in
    let r = c.in-Some.channel.now in
    told_as _ _ _ _ (channel_told (state_of c.args.objects.now) c.args.x r (read_at _ _ c.args.x r c.deref.ensures.value got.3.0 got.1)) (channel_is c.args.x r c.sent.result c.taken.result c.sent.ensures.value c.taken.ensures)
