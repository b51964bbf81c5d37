use Rattle.std.proofs.Common.{◌+◌, ◌++◌, [], ◌∷◌, ap, sym, refl, ◌∙◌, subst, arith, length}
use Rattle.std.proofs.lemmas.Bool.{eqb-true, eqb-false}
use Rattle.dc_timers.specs.Numbers.{Queue, by_number}
use Rattle.dc_timers.specs.Orders.{AreInOrder}
use Rattle.dc_timers.proofs.Armed.{length-armed, ordered-put, by_number-put}
use Rattle.dc_timers.proofs.timer_lists.TimerListTimerQueue.arm.Goals as goal

pub returns-then-is_full-clause-full : goal.returns-then-is_full-clause-full
returns-then-is_full-clause-full c =
    let long = length-armed c.self.inside.timers.items c.args.self.now c.self.inside.next c.self.view_is in
    let full = eqb-true (length c.self.inside.timers.items) 64 (sym c.is_full.ensures.value ∙ c.if-is_full.true) in
    ((λ e. omega (arith, long, full)), (λ le. refl))

pub returns-clause-full : goal.returns-clause-full
returns-clause-full c =
    let long = length-armed c.self.inside.timers.items c.args.self.now c.self.inside.next c.self.view_is in
    let free = eqb-false (length c.self.inside.timers.items) 64 (sym c.is_full.ensures.value ∙ c.if-is_full.false) in
    ((λ e. cc), (λ le. absurd (free (omega (arith, long, c.is_full.ensures.fits)))))

pub invariant_of-self : goal.invariant_of-self
invariant_of-self c = subst (AreInOrder (c.self.inside.next + 1)) (sym c.put.ensures) (ordered-put (record { deadline = c.args.deadline; number = c.self.inside.next; signal = c.args.signal; value = c.args.value }) c.self.inside.timers.items c.self.invariant)

pub returns-clause-armed : goal.returns-clause-armed
returns-clause-armed c =
    ap by_number c.put.ensures
    ∙ (by_number-put (record { deadline = c.args.deadline; number = c.self.inside.next; signal = c.args.signal; value = c.args.value }) c.self.inside.timers.items c.self.invariant.numbered
    ∙ ap (λ (q : Queue). q.armed ++ record { deadline = c.args.deadline; number = q.next; signal = c.args.signal; value = c.args.value } ∷ []) c.self.view_is)
