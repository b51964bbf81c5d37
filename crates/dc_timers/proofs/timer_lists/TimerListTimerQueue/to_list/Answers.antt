use Rattle.std.proofs.Common.{ap, sym, ◌∙◌}
use Rattle.dc_base.specs.Timers.{in_order}
use Rattle.dc_timers.specs.Numbers.{Queue}
use Rattle.dc_timers.proofs.Armed.{in_order-by_number}
use Rattle.dc_timers.proofs.timer_lists.TimerListTimerQueue.to_list.Goals as goal

pub returns-clause-order : goal.returns-clause-order
returns-clause-order c =
    c.in_order.ensures
    ∙ (ap in_order c.as_slice.ensures.value
    ∙ (sym (in_order-by_number c.self.inside.next c.self.inside.timers.items c.self.invariant.numbered) ∙ ap (λ (q : Queue). in_order q.armed) c.self.view_is))
