use Rattle.std.proofs.Common.{ap, sym, ◌∙◌, subst}
use Rattle.dc_base.specs.Timers.{in_order}
use Rattle.dc_timers.specs.Numbers.{Queue, by_number, AreNumbered}
use Rattle.dc_timers.proofs.Armed.{in_order-by_number, by_number-in_order, numbered-in_order}
use Rattle.dc_timers.proofs.timer_wheels.TimerWheelTimerQueue.to_list.Goals as goal

pub returns-clause-order : goal.returns-clause-order
returns-clause-order c =
    c.in_order.ensures
    ∙ (ap in_order c.as_slice.ensures.value
    ∙ (sym (in_order-by_number c.self.inside.next c.self.inside.buckets c.self.invariant.numbered) ∙ ap (λ (q : Queue). in_order q.armed) c.self.view_is))

pub returns-clause-all : goal.returns-clause-all
returns-clause-all c =
    ap by_number (c.in_order.ensures ∙ ap in_order c.as_slice.ensures.value)
    ∙ (by_number-in_order c.self.inside.next c.self.inside.buckets c.self.invariant.numbered ∙ ap (λ (q : Queue). q.armed) c.self.view_is)

pub returns-clause-numbered : goal.returns-clause-numbered
returns-clause-numbered c =
    subst (λ (q : Queue). AreNumbered q.next c.in_order.result.items) c.self.view_is
    (subst (AreNumbered c.self.inside.next) (sym (c.in_order.ensures ∙ ap in_order c.as_slice.ensures.value)) (numbered-in_order c.self.inside.next c.self.inside.buckets c.self.invariant.numbered))
