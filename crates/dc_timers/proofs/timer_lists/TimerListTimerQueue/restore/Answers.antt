use Rattle.std.proofs.Common.{ap, sym, ◌∙◌, subst}
use Rattle.dc_base.specs.Timers.{in_order}
use Rattle.dc_timers.specs.Numbers.{by_number}
use Rattle.dc_timers.specs.Orders.{AreInOrder}
use Rattle.dc_timers.proofs.Armed.{ordered-in_order, by_number-in_order}
use Rattle.dc_timers.proofs.timer_lists.TimerListTimerQueue.restore.Goals as goal

pub invariant_of-result : goal.invariant_of-result
invariant_of-result c = subst (AreInOrder c.args.number) (sym (c.in_order.ensures ∙ ap in_order c.as_slice.ensures.value)) (ordered-in_order c.args.number c.args.timers.now.items c.requires)

pub returns-clause-timers : goal.returns-clause-timers
returns-clause-timers c = ap by_number (c.in_order.ensures ∙ ap in_order c.as_slice.ensures.value) ∙ by_number-in_order c.args.number c.args.timers.now.items c.requires
