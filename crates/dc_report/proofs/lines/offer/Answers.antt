use Rattle.std.proofs.Common.{sym}
use Rattle.dc_objects.specs.States.{state_of}
use Rattle.dc_report.proofs.Drops.{read_at, none_at}
use Rattle.dc_report.proofs.PlaceLaws.{offer_told, no_offer, no_line}
use Rattle.dc_report.proofs.Telling.{instead}
use Rattle.dc_report.proofs.lines.offer.Goals as goal

pub returns-in_default : goal.returns-in_default
returns-in_default g c = instead _ _ _ _ (no_line (state_of c.args.objects.now) c.args.l (none_at _ _ c.args.l c.deref.ensures.value c.in_default.ensures.lookup.3)) c.output.ensures

pub returns-in-Some-offered : goal.returns-in-Some-offered
returns-in-Some-offered g c =
    let got = c.in-Some.ensures.lookup in
    let there = read_at _ _ c.args.l c.in-Some.there.now c.deref.ensures.value got.3.0 got.1 in
    offer_told (state_of c.args.objects.now) c.args.l c.in-Some.there.now (c.in-Some-offered.channel.0, c.in-Some-offered.rights) there (sym c.in-Some-offered.ensures.value)

pub returns-in-None : goal.returns-in-None
returns-in-None g c =
    let got = c.in-Some.ensures.lookup in
    let there = read_at _ _ c.args.l c.in-Some.there.now c.deref.ensures.value got.3.0 got.1 in
    instead _ _ _ _ (no_offer (state_of c.args.objects.now) c.args.l c.in-Some.there.now there (sym c.in-None.ensures.value)) c.line.ensures
