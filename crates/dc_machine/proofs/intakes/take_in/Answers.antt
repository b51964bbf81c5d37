-- A raise is taken in, with the block and the line in their places.
use Rattle.std.proofs.Common.{◌≡◌, sym, subst}
use Rattle.std.proofs.lemmas.Option.{slice_get_within}
use Rattle.dc_base.specs.declared.actions.Action.TheVariants as action
use Rattle.dc_base.specs.declared.actions.Actor.TheVariants as actor
use Rattle.dc_base.specs.Lines.{Wire}
use Rattle.dc_base.specs.States.{State, Block}
use Rattle.dc_bodies.specs.Pendings.{IsPending}
use Rattle.dc_bodies.specs.TakenIn.{StandToTake}
use Rattle.dc_objects.specs.States.{state_of}
use Rattle.dc_machine.proofs.Bodies.{did_answers}
use Rattle.dc_machine.proofs.Intakings.{signal_there}
use Rattle.dc_machine.proofs.OrderFacts.{read_is}
use Rattle.dc_machine.proofs.Refusals.{at_index}
use Rattle.dc_machine.proofs.intakes.take_in.Goals as goal

pub take_in_held-requires-clause-signal : goal.take_in_held-requires-clause-signal
take_in_held-requires-clause-signal g c κs within =
    let s : State = state_of c.args.objects.now in
    let w = c.requires.line in
    let x = c.requires.block in
    let y : Block = c.index_mut-block.result.now in
    signal_there s c.args.l.0 c.args.p.block.0 c.args.p.signal.0 w.0 y c.requires.sound w.1 w.2 (at_index s.blocks c.args.p.block.0 y (slice_get_within s.blocks c.args.p.block.0 x.0 x.1) c.index_mut-block.ensures.value)

pub returns-clause-step : goal.returns-clause-step
returns-clause-step g c k w x pending at =
    let s : State = state_of c.args.objects.now in
    let y : Block = c.index_mut-block.result.now in
    let v : Wire = c.index_mut-line.result.now in
    let p = c.args.p in
    let same : w ≡ v = sym (read_is s.lines c.args.l.0 v w at.line c.index_mut-line.ensures.value) in
    let alike : x ≡ y = sym (read_is s.blocks p.block.0 y x at.block c.index_mut-block.ensures.value) in
    let is_so = subst (λ (u : Wire). IsPending c.args.c.0 k u p) same pending in
    let at_so = subst (λ (u : Wire). StandToTake s c.args.c.0 k c.args.l.0 u p y) same (subst (λ (z : Block). StandToTake s c.args.c.0 k c.args.l.0 w p z) alike at) in
    did_answers s (actor.Core c.args.c) (action.Intake c.args.l) _ c.take_in_held.result (c.take_in_held.ensures s k is_so at_so) 0
