use Rattle.std.proofs.Common.{ap}
use Rattle.dc_timers.specs.Numbers.{Queue}
use Rattle.dc_timers.proofs.Armed.{first-none, first-some}
use Rattle.dc_timers.proofs.timer_lists.TimerListTimerQueue.earliest.Goals as goal

pub returns-in-empty : goal.returns-in-empty
returns-in-empty c = first-none c.self.inside.next c.args.self.now.armed c.self.inside.timers.items c.self.invariant (ap (λ (q : Queue). q.armed) c.self.view_is) c.as_slice.result.now c.as_slice.ensures.value c.in-empty.len_below

pub returns-in-len1-up : goal.returns-in-len1-up
returns-in-len1-up c = first-some c.self.inside.next c.args.self.now.armed c.self.inside.timers.items c.self.invariant (ap (λ (q : Queue). q.armed) c.self.view_is) c.as_slice.result.now c.as_slice.ensures.value _ c.in-len1-up.len_at_least
