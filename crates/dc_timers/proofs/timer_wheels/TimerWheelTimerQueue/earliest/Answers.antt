use Rattle.std.proofs.Common.{ap, sym, ◌∙◌}
use Rattle.dc_timers.specs.Numbers.{Queue}
use Rattle.dc_base.specs.Timers.{soonest}
use Rattle.dc_timers.proofs.Armed.{soonest-by_number}
use Rattle.dc_timers.proofs.Turning.{deadline_of}
use Rattle.dc_timers.proofs.timer_wheels.TimerWheelTimerQueue.earliest.Goals as goal

pub returns : goal.returns
returns c = c.self.invariant.earliest_is ∙ ap deadline_of (sym (soonest-by_number c.self.inside.next c.self.inside.buckets c.self.invariant.numbered) ∙ ap (λ (q : Queue). soonest q.armed) c.self.view_is)
