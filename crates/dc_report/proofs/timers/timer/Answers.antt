use Rattle.std.proofs.Common.{◌≡◌, ◌∙◌}
use Rattle.dc_base.specs.Timers.{in_order}
use Rattle.dc_report.proofs.Drops.{read_at, none_at}
use Rattle.dc_report.proofs.PartLaws.{timer_told, timers_over}
use Rattle.dc_report.proofs.Telling.{instead}
use Rattle.dc_report.proofs.timers.timer.Goals as goal

pub returns-in-Some : goal.returns-in-Some
returns-in-Some g c =
    let same : c.deref.result.now ≡ in_order c.args.block.now.control.parts.timers = c.deref.ensures.0 ∙ c.timers-timers.ensures in
    let got = c.in-Some.ensures.lookup in
    timer_told c.args.b c.args.block.now c.args.i c.in-Some.timer.now (read_at _ _ c.args.i c.in-Some.timer.now same got.3.0 got.1)

pub returns-in-None : goal.returns-in-None
returns-in-None g c =
    let same : c.deref.result.now ≡ in_order c.args.block.now.control.parts.timers = c.deref.ensures.0 ∙ c.timers-timers.ensures in
    instead _ _ _ _ (timers_over c.args.b c.args.block.now c.args.i (none_at _ _ c.args.i same c.in-None.ensures.lookup.3)) c.message.ensures
