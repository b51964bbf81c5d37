use Rattle.std.proofs.Common.{sym, arith}
use Rattle.std.proofs.lemmas.Option.{slice_get_within}
use Rattle.dc_objects.specs.States.{state_of}
use Rattle.dc_report.proofs.Bounds.{budget_within}
use Rattle.dc_report.proofs.Drops.{read_at, none_at}
use Rattle.dc_report.proofs.PlaceLaws.{untaken_told, untaken_over, no_channel}
use Rattle.dc_report.proofs.Telling.{instead}
use Rattle.dc_report.proofs.channels.untaken.Goals as goal

pub returns-in_default : goal.returns-in_default
returns-in_default g c = instead _ _ _ _ (no_channel (state_of c.args.objects.now) c.args.x c.args.i (none_at _ _ c.args.x c.deref.ensures.value c.in_default.ensures.lookup.3)) c.line.ensures

pub overflow_add-result : goal.overflow_add-result
overflow_add-result g c =
    let s = state_of c.args.objects.now in
    let got = c.in-Some.ensures.lookup in
    let r = c.in-Some.there.now in
    let there = read_at _ _ c.args.x r c.deref.ensures.value got.3.0 got.1 in
    let within = slice_get_within r.untaken c.args.i c.in-Some-at.message (sym c.in-Some-at.ensures) in
    let sum = (c.requires.rings c.args.x r there).sent in
    let sent = c.requires.counted.sent c.args.x r there in
    let most = budget_within s c.requires in
    omega (arith, within, sum, sent, most)

pub returns-in-Some-at : goal.returns-in-Some-at
returns-in-Some-at g c =
    let got = c.in-Some.ensures.lookup in
    let r = c.in-Some.there.now in
    untaken_told (state_of c.args.objects.now) c.args.x c.args.i r c.in-Some-at.message (read_at _ _ c.args.x r c.deref.ensures.value got.3.0 got.1) (sym c.in-Some-at.ensures)

pub returns-in-None : goal.returns-in-None
returns-in-None g c =
    let got = c.in-Some.ensures.lookup in
    let r = c.in-Some.there.now in
    instead _ _ _ _ (untaken_over (state_of c.args.objects.now) c.args.x c.args.i r (read_at _ _ c.args.x r c.deref.ensures.value got.3.0 got.1) (sym c.in-None.ensures)) c.channel.ensures
