use Rattle.std.proofs.Common.{refl}
use Rattle.dc_base.specs.declared.commands.Order.TheVariants as order
use Rattle.dc_base.specs.Orders.{block_under}
use Rattle.dc_core_turns.proofs.OrderShares.{share_timed, share_once, share_order, share_kept_hand}
use Rattle.dc_core_turns.proofs.replacements.replace_turn.Goals as goal

pub replace_row-entry-requires-clause-blocks : goal.replace_row-entry-requires-clause-blocks
replace_row-entry-requires-clause-blocks g c κs within = share_timed c.args.stage.now c.requires.opened c.args.pass.now c.args.hand.now c.args.mailbox c.requires.hand

pub replace_row-entry-requires-clause-once : goal.replace_row-entry-requires-clause-once
replace_row-entry-requires-clause-once g c κs within = share_once c.args.stage.now c.requires.opened c.args.pass.now c.args.hand.now c.args.mailbox c.requires.hand

pub acknowledge-requires-clause-order : goal.acknowledge-requires-clause-order
acknowledge-requires-clause-order g c κs within =
    share_order c.args.stage.now c.requires.opened c.args.pass.now c.args.hand.now c.args.mailbox c.requires.hand (order.Replace c.args.v) c.requires.order refl
    c.replace_row-entry.new.core c.replace_row-entry.new.mailbox c.replace_row-entry.new.row (block_under c.args.v) c.replace_row-entry.ensures.blocks c.replace_row-entry.result c.replace_row-entry.ensures.turn

pub returns-clause-hand : goal.returns-clause-hand
returns-clause-hand g c =
    share_kept_hand c.args.stage.now c.requires.opened c.args.pass.now c.args.hand.now c.args.mailbox c.requires.hand (order.Replace c.args.v) c.requires.order refl
    c.replace_row-entry.new.core c.replace_row-entry.new.mailbox c.replace_row-entry.new.row (block_under c.args.v) c.replace_row-entry.ensures.blocks c.replace_row-entry.result c.replace_row-entry.ensures.turn
    c.acknowledge.new.pass c.acknowledge.result c.acknowledge.ensures refl
