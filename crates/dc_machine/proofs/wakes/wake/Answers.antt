use Rattle.std.proofs.Common.{◌≡◌, sym, subst}
use Rattle.dc_base.specs.declared.actions.Action.TheVariants as action
use Rattle.dc_base.specs.declared.actions.Actor.TheVariants as actor
use Rattle.dc_base.specs.States.{Block, Core}
use Rattle.dc_bodies.specs.Woken.{CanWake, StandToWake}
use Rattle.dc_objects.specs.States.{state_of}
use Rattle.dc_machine.proofs.Bodies.{did_answers}
use Rattle.dc_machine.proofs.OrderFacts.{read_is}
use Rattle.dc_machine.proofs.wakes.wake.Goals as goal

pub returns-clause-step : goal.returns-clause-step
returns-clause-step g c k x w r can at =
    let s = state_of c.args.objects.now in
    let h : Core = c.index_mut-core.result.now in
    let y : Block = c.index_mut-block.result.now in
    let b = c.args.b.0 in
    let same : k ≡ h = sym (read_is s.cores c.args.c.0 h k at.core c.index_mut-core.ensures.value) in
    let alike : x ≡ y = sym (read_is s.blocks b y x at.block c.index_mut-block.ensures.value) in
    let can_so = subst (λ (m : Core). CanWake m b c.args.d.0 y w r) same (subst (λ (z : Block). CanWake k b c.args.d.0 z w r) alike can) in
    let at_so = subst (λ (m : Core). StandToWake s c.args.c.0 m b y w r) same (subst (λ (z : Block). StandToWake s c.args.c.0 k b z w r) alike at) in
    did_answers s (actor.Core c.args.c) (action.Wake c.args.b c.args.d) _ c.wake_held.result (c.wake_held.ensures s w r can_so at_so) 0
