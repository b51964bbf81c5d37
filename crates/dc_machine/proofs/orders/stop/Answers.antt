use Rattle.std.proofs.Common.{refl}
use Rattle.dc_base.specs.declared.commands.Order.TheVariants as order
use Rattle.dc_base.specs.Orders.{block_at_rest}
use Rattle.dc_base.specs.States.{order as ordered}
use Rattle.dc_objects.specs.States.{state_of}
use Rattle.dc_machine.proofs.OrderFacts.{all_timed, lists_once, read_at, read_is, stands}
use Rattle.dc_machine.proofs.ShareChanges.{share_answers}
use Rattle.dc_machine.proofs.orders.stop.Goals as goal

pub stop_held-requires-clause-order : goal.stop_held-requires-clause-order
stop_held-requires-clause-order g c κs within =
    let s = state_of c.args.objects.now in
    read_is s.mailboxes c.args.c.0 c.index_mut-mailbox.result.now (ordered order.Stop) c.requires.order c.index_mut-mailbox.ensures.value

pub stop_held-requires-clause-blocks : goal.stop_held-requires-clause-blocks
stop_held-requires-clause-blocks g c κs within =
    let s = state_of c.args.objects.now in
    let k = c.index_mut-core.result.now in
    all_timed s c.requires.sound c.args.c.0 k (read_at s.cores c.args.c.0 k c.requires.core c.index_mut-core.ensures.value)

pub stop_held-requires-clause-apart : goal.stop_held-requires-clause-apart
stop_held-requires-clause-apart g c κs within = λ b n inside same. same

pub stop_held-requires-clause-once : goal.stop_held-requires-clause-once
stop_held-requires-clause-once g c κs within =
    let s = state_of c.args.objects.now in
    let k = c.index_mut-core.result.now in
    lists_once s c.requires.sound c.args.c.0 k (read_at s.cores c.args.c.0 k c.requires.core c.index_mut-core.ensures.value)

pub returns-clause-step : goal.returns-clause-step
returns-clause-step g c =
    let s = state_of c.args.objects.now in
    let k = c.index_mut-core.result.now in
    let m = c.index_mut-mailbox.result.now in
    let at = stands s c.args.c k m c.requires.core c.index_mut-core.ensures.value c.index_mut-mailbox.ensures.value order.Stop c.requires.order in
    share_answers s c.args.c c.stop_held.new.core c.stop_held.new.mailbox (block_at_rest k.clock) k.share c.stop_held.new.blocks.items c.stop_held.result c.stop_held.ensures.blocks
    (c.stop_held.ensures.turn s at (λ b h. refl))
