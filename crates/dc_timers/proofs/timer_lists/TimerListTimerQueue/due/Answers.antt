use Rattle.std.proofs.Common.{◌<◌, length, ap, sym, ◌∙◌, subst, arith}
use Rattle.dc_timers.specs.Numbers.{Queue, by_number}
use Rattle.dc_timers.specs.Orders.{AreInOrder}
use Rattle.dc_timers.proofs.Armed.{front-there, front-soonest, front-rest, front-gone}
use Rattle.dc_timers.proofs.Due.{due-none, due-later, due-now}
use Rattle.dc_timers.proofs.timer_lists.TimerListTimerQueue.due.Goals as goal

pub remove-requires : goal.remove-requires
remove-requires c = (omega arith, front-there c.self.inside.next c.in-Some.deadline c.args.self.now.armed c.self.inside.timers.items c.self.invariant (ap (λ (q : Queue). q.armed) c.self.view_is) c.in-Some.ensures)

there : (c : goal.After-remove) → 0 < length c.self.inside.timers.items
there c = front-there c.self.inside.next c.in-Some.deadline c.args.self.now.armed c.self.inside.timers.items c.self.invariant (ap (λ (q : Queue). q.armed) c.self.view_is) c.in-Some.ensures

pub invariant_of-self : goal.invariant_of-self
invariant_of-self c = subst (AreInOrder c.self.inside.next) (sym c.remove.ensures.items) (front-rest c.self.inside.next c.args.self.now.armed c.self.inside.timers.items c.self.invariant (there c))

pub returns-in-Some-clause-which : goal.returns-in-Some-clause-which
returns-in-Some-clause-which c =
    due-now c.args.now c.args.self.now.armed c.in-Some.deadline c.remove.result c.in-Some.ensures c.if-deadline-now.true
    (front-soonest c.self.inside.next c.args.self.now.armed c.self.inside.timers.items c.remove.result c.self.invariant (ap (λ (q : Queue). q.armed) c.self.view_is) (there c) c.remove.ensures.value)

pub returns-in-Some-clause-rest : goal.returns-in-Some-clause-rest
returns-in-Some-clause-rest c =
    ap by_number c.remove.ensures.items
    ∙ front-gone c.self.inside.next c.args.self.now.armed c.self.inside.timers.items c.remove.result c.self.invariant (ap (λ (q : Queue). q.armed) c.self.view_is) (there c) c.remove.ensures.value

pub returns-in_default-clause-which : goal.returns-in_default-clause-which
returns-in_default-clause-which c = due-later c.args.now c.args.self.now.armed c.in-Some.deadline c.in-Some.ensures c.if-deadline-now.false

pub returns-in_default-2-clause-which : goal.returns-in_default-2-clause-which
returns-in_default-2-clause-which c = due-none c.args.now c.args.self.now.armed c.in_default.ensures
