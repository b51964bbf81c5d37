use Rattle.std.proofs.Common.{◌≡◌, [], sym, subst}
use Rattle.dc_timers.specs.Numbers.{by_number}
use Rattle.dc_timers.proofs.Armed.{by_number-none}
use Rattle.dc_timers.proofs.timer_wheels.TimerWheelTimerQueue.empty.Goals as goal

pub returns-clause-none : goal.returns-clause-none
returns-clause-none c = subst (λ ts. by_number ts ≡ []) (sym c.empty.ensures) by_number-none
