use Rattle.std.proofs.Common.{refl}
use Rattle.dc_base.specs.declared.commands.Order.TheVariants as order
use Rattle.dc_base.specs.Orders.{block_under}
use Rattle.dc_base.specs.States.{order as ordered}
use Rattle.dc_objects.specs.States.{state_of}
use Rattle.dc_machine.proofs.OrderFacts.{all_timed, lists_once, read_at, read_is, stands}
use Rattle.dc_machine.proofs.ShareChanges.{share_answers}
use Rattle.dc_machine.proofs.orders.replace.Goals as goal

pub replace_held-requires-clause-order : goal.replace_held-requires-clause-order
replace_held-requires-clause-order g c κs within =
    let s = state_of c.args.objects.now in
    read_is s.mailboxes c.args.c.0 c.index_mut-mailbox.result.now (ordered (order.Replace c.args.v)) c.requires.order c.index_mut-mailbox.ensures.value

pub replace_held-requires-clause-blocks : goal.replace_held-requires-clause-blocks
replace_held-requires-clause-blocks g c κs within =
    let s = state_of c.args.objects.now in
    let k = c.index_mut-core.result.now in
    all_timed s c.requires.sound c.args.c.0 k (read_at s.cores c.args.c.0 k c.requires.core c.index_mut-core.ensures.value)

pub replace_held-requires-clause-apart : goal.replace_held-requires-clause-apart
replace_held-requires-clause-apart g c κs within = λ b n inside same. same

pub replace_held-requires-clause-once : goal.replace_held-requires-clause-once
replace_held-requires-clause-once g c κs within =
    let s = state_of c.args.objects.now in
    let k = c.index_mut-core.result.now in
    lists_once s c.requires.sound c.args.c.0 k (read_at s.cores c.args.c.0 k c.requires.core c.index_mut-core.ensures.value)

pub returns-clause-step : goal.returns-clause-step
returns-clause-step g c =
    let s = state_of c.args.objects.now in
    let k = c.index_mut-core.result.now in
    let m = c.index_mut-mailbox.result.now in
    let at = stands s c.args.c k m c.requires.core c.index_mut-core.ensures.value c.index_mut-mailbox.ensures.value (order.Replace c.args.v) c.requires.order in
    share_answers s c.args.c c.replace_held.new.core c.replace_held.new.mailbox (block_under c.args.v) k.share c.replace_held.new.blocks.items c.replace_held.result c.replace_held.ensures.blocks
    (c.replace_held.ensures.turn s at (λ b h. refl))
