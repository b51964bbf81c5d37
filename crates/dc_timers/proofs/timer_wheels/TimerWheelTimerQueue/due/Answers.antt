use Rattle.std.proofs.Common.{ap, sym, ◌∙◌, subst}
use Rattle.dc_base.specs.Timers.{soonest, without_timer}
use Rattle.dc_timers.specs.Numbers.{Queue, AreNumbered}
use Rattle.dc_timers.proofs.Due.{due-none, due-later, due-now}
use Rattle.dc_timers.proofs.Turning.{deadline_of, soonest-place, taken-soonest, numbered-take, armed-take, wheel-soonest}
use Rattle.dc_timers.proofs.timer_wheels.TimerWheelTimerQueue.due.Goals as goal

pub soonest_of_bucket-at-requires : goal.soonest_of_bucket-at-requires
soonest_of_bucket-at-requires c = soonest-place c.self.inside.buckets c.in-Some.deadline (sym c.in-Some.is ∙ c.self.invariant.earliest_is)

pub least_deadline-self-inside-requires : goal.least_deadline-self-inside-requires
least_deadline-self-inside-requires c =
    (c.self.inside.next, subst (AreNumbered c.self.inside.next) (sym c.as_slice.ensures.value) (numbered-take c.self.inside.next c.self.inside.buckets c.take-timer.new.self c.soonest_of_bucket-at.result c.take-timer.result c.self.invariant.numbered c.take-timer.ensures.value c.take-timer.ensures.rest))

pub invariant_of-self : goal.invariant_of-self
invariant_of-self c = record {
  numbered = numbered-take c.self.inside.next c.self.inside.buckets c.take-timer.new.self c.soonest_of_bucket-at.result c.take-timer.result c.self.invariant.numbered c.take-timer.ensures.value c.take-timer.ensures.rest;
  earliest_is = c.least_deadline-self-inside.ensures ∙ ap (λ ts. deadline_of (soonest ts)) c.as_slice.ensures.value;
}

pub returns-in-Some-clause-which : goal.returns-in-Some-clause-which
returns-in-Some-clause-which c =
    let seen = wheel-soonest c.self.inside.next c.self.inside.buckets c.self.invariant.numbered c.args.self.now c.self.view_is in
    let is_earliest = sym c.in-Some.is ∙ c.self.invariant.earliest_is in
    due-now c.args.now c.args.self.now.armed c.in-Some.deadline c.take-timer.result (is_earliest ∙ ap deadline_of seen) c.if-deadline-now.true
    (sym seen ∙ taken-soonest c.self.inside.next c.self.inside.buckets c.in-Some.deadline c.soonest_of_bucket-at.result c.take-timer.result c.self.invariant.numbered is_earliest c.take-timer.ensures.value (λ j r u. c.soonest_of_bucket-at.ensures.soonest j r u))

pub returns-in-Some-clause-rest : goal.returns-in-Some-clause-rest
returns-in-Some-clause-rest c =
    armed-take c.self.inside.next c.self.inside.buckets c.take-timer.new.self c.soonest_of_bucket-at.result c.take-timer.result c.self.invariant.numbered c.take-timer.ensures.value c.take-timer.ensures.rest
    ∙ ap (λ (q : Queue). without_timer c.take-timer.result q.armed) c.self.view_is

pub returns-in_default-clause-which : goal.returns-in_default-clause-which
returns-in_default-clause-which c =
    due-later c.args.now c.args.self.now.armed c.in-Some.deadline
    (sym c.in-Some.is ∙ (c.self.invariant.earliest_is ∙ ap deadline_of (wheel-soonest c.self.inside.next c.self.inside.buckets c.self.invariant.numbered c.args.self.now c.self.view_is)))
    c.if-deadline-now.false

pub returns-in_default-2-clause-which : goal.returns-in_default-2-clause-which
returns-in_default-2-clause-which c =
    due-none c.args.now c.args.self.now.armed
    (sym c.in_default.is ∙ (c.self.invariant.earliest_is ∙ ap deadline_of (wheel-soonest c.self.inside.next c.self.inside.buckets c.self.invariant.numbered c.args.self.now c.self.view_is)))
