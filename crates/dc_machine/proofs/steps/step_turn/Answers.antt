-- A core's step.
use Rattle.std.proofs.Common.{◌≡◌, Some, refl, sym, ap, ◌∙◌, subst, slice_get, length}
use Rattle.std.proofs.lemmas.Option.{slice_get_read}
use Rattle.dc_base.specs.States.{State, Core}
use Rattle.dc_base.specs.IdleTurns.{idle_outcome}
use Rattle.dc_objects.specs.States.{state_of}
use Rattle.dc_machine.specs.Answers.{Answers}
use Rattle.dc_bodies.specs.Nexts.{IsNext}
use Rattle.dc_machine.proofs.CoreTurns.{seen, stops, unspent, idles, nothing, first_listed, slices}
use Rattle.dc_machine.proofs.InHands.{in_hand, budget_left}
use Rattle.dc_machine.proofs.steps.step_turn.Goals as goal

pub returns-in-Some-clause-step : goal.returns-in-Some-clause-step
returns-in-Some-clause-step g c =
    let s : State = state_of c.args.objects.now in
    let k : Core = c.index-core.result.now in
    let at : slice_get s.cores c.args.c.0 ≡ Some k = slice_get_read s.cores (length s.cores) c.args.c.0 k refl c.requires.core c.index-core.ensures in
    stops s c.args.c k at c.in-Some.stop (sym c.stopped.ensures ∙ c.in-Some.is)

pub next_of-requires-clause-hand : goal.next_of-requires-clause-hand
next_of-requires-clause-hand g c κs within =
    let s : State = state_of c.args.objects.now in
    let k : Core = c.index-core.result.now in
    let at : slice_get s.cores c.args.c.0 ≡ Some k = slice_get_read s.cores (length s.cores) c.args.c.0 k refl c.requires.core c.index-core.ensures in
    (c.args.c.0, in_hand s c.requires.sound c.args.c.0 k at)

pub idle-requires-after_bounds : goal.idle-requires-after_bounds
idle-requires-after_bounds g c κs within =
    let s : State = state_of c.args.objects.now in
    let k : Core = c.index-core.result.now in
    let at : slice_get s.cores c.args.c.0 ≡ Some k = slice_get_read s.cores (length s.cores) c.args.c.0 k refl c.requires.core c.index-core.ensures in
    (k, at, budget_left s c.requires.sound c.args.c.0 k at (unspent s c.args.c k at (sym c.stopped.ensures ∙ c.in_default.is)))

pub slice-requires-clause-core : goal.slice-requires-clause-core
slice-requires-clause-core g c κs within =
    let s : State = state_of c.args.objects.now in
    let k : Core = c.index-core.result.now in
    let at : slice_get s.cores c.args.c.0 ≡ Some k = slice_get_read s.cores (length s.cores) c.args.c.0 k refl c.requires.core c.index-core.ensures in
    let next = subst (IsNext k (seen s c.args.c k at)) c.in-Slice.is c.next_of.ensures in (
      k,
      at,
      first_listed s c.args.c k at c.in-Slice.block next.0 next.1,
      budget_left s c.requires.sound c.args.c.0 k at (unspent s c.args.c k at (sym c.stopped.ensures ∙ c.in_default.is)),
    )

pub returns-in-Nothing-clause-step : goal.returns-in-Nothing-clause-step
returns-in-Nothing-clause-step g c =
    let s : State = state_of c.args.objects.now in
    let k : Core = c.index-core.result.now in
    let at : slice_get s.cores c.args.c.0 ≡ Some k = slice_get_read s.cores (length s.cores) c.args.c.0 k refl c.requires.core c.index-core.ensures in
    let next = subst (IsNext k (seen s c.args.c k at)) c.in-Nothing.is c.next_of.ensures in
    nothing s c.args.c k at (sym c.stopped.ensures ∙ c.in_default.is) next.0 next.1

pub returns-in-Idle-clause-step : goal.returns-in-Idle-clause-step
returns-in-Idle-clause-step g c =
    let s : State = state_of c.args.objects.now in
    let k : Core = c.index-core.result.now in
    let at : slice_get s.cores c.args.c.0 ≡ Some k = slice_get_read s.cores (length s.cores) c.args.c.0 k refl c.requires.core c.index-core.ensures in
    let next = subst (IsNext k (seen s c.args.c k at)) c.in-Idle.is c.next_of.ensures in
    let is = idles s c.args.c k at (sym c.stopped.ensures ∙ c.in_default.is) next.0 ∙ ap (idle_outcome c.args.c.0 k) next.1 in
    subst (Answers c.idle.result s (state_of c.idle.new.objects)) (sym is) (c.idle.ensures.step k at)

pub returns-in-Slice-clause-step : goal.returns-in-Slice-clause-step
returns-in-Slice-clause-step g c =
    let s : State = state_of c.args.objects.now in
    let k : Core = c.index-core.result.now in
    let at : slice_get s.cores c.args.c.0 ≡ Some k = slice_get_read s.cores (length s.cores) c.args.c.0 k refl c.requires.core c.index-core.ensures in
    let next = subst (IsNext k (seen s c.args.c k at)) c.in-Slice.is c.next_of.ensures in
    let is = slices s c.args.c k at c.in-Slice.block next.0 next.1 (sym c.stopped.ensures ∙ c.in_default.is) in
    subst (Answers c.slice.result s (state_of c.slice.new.objects)) (sym is) (c.slice.ensures.step k at)
