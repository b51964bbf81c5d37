use Rattle.std.proofs.Common.{ap, sym, ◌∙◌, subst}
use Rattle.dc_base.specs.Timers.{soonest}
use Rattle.dc_timers.specs.Numbers.{AreNumbered}
use Rattle.dc_timers.proofs.Turning.{deadline_of}
use Rattle.dc_timers.proofs.timer_wheels.TimerWheelTimerQueue.restore.Goals as goal

pub in_buckets-buckets-requires-clause-numbered : goal.in_buckets-buckets-requires-clause-numbered
in_buckets-buckets-requires-clause-numbered c = (c.args.number, subst (AreNumbered c.args.number) (sym c.as_slice.ensures.value) c.requires)

pub least_deadline-earliest-requires : goal.least_deadline-earliest-requires
least_deadline-earliest-requires c =
    (c.args.number, subst (AreNumbered c.args.number) (sym c.as_slice-2.ensures.value) (c.in_buckets-buckets.ensures.numbered c.args.number (subst (AreNumbered c.args.number) (sym c.as_slice.ensures.value) c.requires)))

pub invariant_of-result : goal.invariant_of-result
invariant_of-result c = record {
  numbered = c.in_buckets-buckets.ensures.numbered c.args.number (subst (AreNumbered c.args.number) (sym c.as_slice.ensures.value) c.requires);
  earliest_is = c.least_deadline-earliest.ensures ∙ ap (λ ts. deadline_of (soonest ts)) c.as_slice-2.ensures.value;
}
