use Rattle.std.proofs.Common.{◌≡◌, [], sym, subst}
use Rattle.dc_timers.specs.Numbers.{by_number}
use Rattle.dc_timers.specs.Orders.{AreInOrder}
use Rattle.dc_timers.proofs.Armed.{ordered-none, by_number-none}
use Rattle.dc_timers.proofs.timer_lists.TimerListTimerQueue.empty.Goals as goal

pub invariant_of-result : goal.invariant_of-result
invariant_of-result c = subst (AreInOrder 0) (sym c.new.ensures) (ordered-none 0)

pub returns-clause-none : goal.returns-clause-none
returns-clause-none c = subst (λ ts. by_number ts ≡ []) (sym c.new.ensures) by_number-none
