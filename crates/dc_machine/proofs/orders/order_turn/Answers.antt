use Rattle.std.proofs.Common.{◌≡◌, Some, refl, ap, ◌∙◌}
use Rattle.std.specs.Prelude.{slice_get}
use Rattle.dc_base.specs.declared.actions.Action.TheVariants as action
use Rattle.dc_base.specs.declared.actions.Actor.TheVariants as actor
use Rattle.dc_base.specs.States.{order as ordered}
use Rattle.dc_objects.specs.States.{state_of}
use Rattle.dc_machine.proofs.Bodies.{none_answers}
use Rattle.dc_machine.proofs.OrderFacts.{element_at, mailbox_at}
use Rattle.dc_machine.proofs.orders.order_turn.Goals as goal

pub start-requires-clause-order : goal.start-requires-clause-order
start-requires-clause-order g c κs within =
    let s = state_of c.args.objects.now in
    mailbox_at s c.requires.sound c.args.c.0 c.index.result.now c.requires.core c.index.ensures ∙ ap Some (c.in-Ok.ensures.order ∙ ap ordered c.in-Start.is)

pub stop-requires-clause-order : goal.stop-requires-clause-order
stop-requires-clause-order g c κs within =
    let s = state_of c.args.objects.now in
    mailbox_at s c.requires.sound c.args.c.0 c.index.result.now c.requires.core c.index.ensures ∙ ap Some (c.in-Ok.ensures.order ∙ ap ordered c.in-Stop.is)

pub replace-requires-clause-order : goal.replace-requires-clause-order
replace-requires-clause-order g c κs within =
    let s = state_of c.args.objects.now in
    mailbox_at s c.requires.sound c.args.c.0 c.index.result.now c.requires.core c.index.ensures ∙ ap Some (c.in-Ok.ensures.order ∙ ap ordered c.in-Replace.is)

pub adopt-requires-clause-order : goal.adopt-requires-clause-order
adopt-requires-clause-order g c κs within =
    let s = state_of c.args.objects.now in
    mailbox_at s c.requires.sound c.args.c.0 c.index.result.now c.requires.core c.index.ensures ∙ ap Some (c.in-Ok.ensures.order ∙ ap ordered c.in-Adopt.is)

pub release-requires-clause-order : goal.release-requires-clause-order
release-requires-clause-order g c κs within =
    let s = state_of c.args.objects.now in
    mailbox_at s c.requires.sound c.args.c.0 c.index.result.now c.requires.core c.index.ensures ∙ ap Some (c.in-Ok.ensures.order ∙ ap ordered c.in-Release.is)

pub returns-in-Err-clause-step : goal.returns-in-Err-clause-step
returns-in-Err-clause-step g c =
    let s = state_of c.args.objects.now in
    let k = element_at s.cores c.args.c.0 c.requires.core in
    none_answers s (actor.Core c.args.c) action.Order c.in-Err.why
    (c.in-Err.ensures.none c.args.c.0 k.0 s (record { core = k.1; mailbox = mailbox_at s c.requires.sound c.args.c.0 c.index.result.now c.requires.core c.index.ensures })) 0
