use Rattle.dc_base.specs.declared.actions.Action.TheVariants as action
use Rattle.dc_base.specs.declared.actions.Actor.TheVariants as actor
use Rattle.dc_base.specs.declared.commands.Order.TheVariants as order
use Rattle.dc_base.specs.States.{order as ordered}
use Rattle.dc_objects.specs.States.{state_of}
use Rattle.dc_machine.proofs.Bodies.{did_answers}
use Rattle.dc_machine.proofs.OrderFacts.{read_is, stands}
use Rattle.dc_machine.proofs.orders.start.Goals as goal

pub start_held-requires : goal.start_held-requires
start_held-requires g c =
    let s = state_of c.args.objects.now in
    record { order = read_is s.mailboxes c.args.c.0 c.index_mut-mailbox.result.now (ordered (order.Start c.args.v)) c.requires.order c.index_mut-mailbox.ensures.value }

pub returns-clause-step : goal.returns-clause-step
returns-clause-step g c =
    let s = state_of c.args.objects.now in
    let k = c.index_mut-core.result.now in
    let m = c.index_mut-mailbox.result.now in
    did_answers s (actor.Core c.args.c) action.Order _ c.start_held.result
    (c.start_held.ensures s (stands s c.args.c k m c.requires.core c.index_mut-core.ensures.value c.index_mut-mailbox.ensures.value (order.Start c.args.v) c.requires.order)) 0
