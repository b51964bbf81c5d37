use Rattle.std.proofs.Common.{◌+◌, ◌++◌, [], ◌∷◌, ap, sym, refl, ◌∙◌, subst, arith, length}
use Rattle.std.specs.Prelude.{Some}
use Rattle.std.proofs.lemmas.Bool.{eqb-true, eqb-false}
use Rattle.dc_timers.specs.Numbers.{Queue}
use Rattle.dc_timers.specs.Wheels.{IsWheel}
use Rattle.dc_timers.proofs.Armed.{length-armed}
use Rattle.dc_timers.proofs.Turning.{armed-put, wheel-put}
use Rattle.dc_timers.proofs.timer_wheels.TimerWheelTimerQueue.arm.Goals as goal

pub returns-then-is_full-clause-full : goal.returns-then-is_full-clause-full
returns-then-is_full-clause-full c =
    let long = length-armed c.self.inside.buckets c.args.self.now c.self.inside.next c.self.view_is in
    let full = eqb-true (length c.self.inside.buckets) 64 (sym c.is_full.ensures.full ∙ c.if-is_full.true) in
    ((λ e. omega (arith, long, full)), (λ le. refl))

pub returns-clause-full : goal.returns-clause-full
returns-clause-full c =
    let long = length-armed c.self.inside.buckets c.args.self.now c.self.inside.next c.self.view_is in
    let free = eqb-false (length c.self.inside.buckets) 64 (sym c.is_full.ensures.full ∙ c.if-is_full.false) in
    ((λ e. cc), (λ le. absurd (free (omega (arith, long, c.is_full.ensures.fits)))))

pub invariant_of-self : goal.invariant_of-self
invariant_of-self c =
    subst (λ d. IsWheel (c.self.inside.next + 1) (Some d) c.put.new.self) (sym c.lesser.ensures)
    (wheel-put c.self.inside.buckets c.put.new.self (record { deadline = c.args.deadline; number = c.self.inside.next; signal = c.args.signal; value = c.args.value }) c.put.ensures.0 c.put.ensures.2 c.self.invariant.numbered c.self.inside.earliest
    c.self.invariant.earliest_is)

pub returns-clause-armed : goal.returns-clause-armed
returns-clause-armed c =
    armed-put c.self.inside.buckets c.put.new.self (record { deadline = c.args.deadline; number = c.self.inside.next; signal = c.args.signal; value = c.args.value }) c.put.ensures.0 c.put.ensures.2 c.self.invariant.numbered
    ∙ ap (λ (q : Queue). q.armed ++ record { deadline = c.args.deadline; number = q.next; signal = c.args.signal; value = c.args.value } ∷ []) c.self.view_is
