-- Only the core changes.
use Rattle.std.proofs.Common.{◌≡◌, Some, refl, sym, ap, ◌∙◌, subst}
use Rattle.std.proofs.lemmas.Option.{get_or_from_slice_get}
use Rattle.dc_base.specs.States.{State, Core}
use Rattle.dc_base.specs.IdleTurns.{idle_outcome}
use Rattle.dc_objects.specs.States.{state_of}
use Rattle.dc_machine.specs.Answers.{Answers}
use Rattle.dc_machine.proofs.steps.idle.Goals as goal

pub returns-clause-step : goal.returns-clause-step
returns-clause-step g c k at =
    let s : State = state_of c.args.objects.now in
    let same : c.index_mut.result.now ≡ k = c.index_mut.ensures.value ∙ get_or_from_slice_get s.cores c.args.c.0 k c.index_mut.result.now at in
    subst (Answers _ s _) (sym c.idle_held.ensures ∙ ap (λ (m : Core). idle_outcome c.args.c.0 m (Some c.args.clock)) same) (refl, refl)
