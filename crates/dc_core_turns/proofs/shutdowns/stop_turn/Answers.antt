use Rattle.std.proofs.Common.{refl, sym, subst}
use Rattle.dc_base.specs.declared.actions.Action.TheVariants as action
use Rattle.dc_base.specs.declared.actions.Actor.TheVariants as actor
use Rattle.dc_base.specs.declared.commands.Order.TheVariants as order
use Rattle.dc_base.specs.Orders.{block_at_rest}
use Rattle.dc_hands.specs.Gathering.{HoldsRow}
use Rattle.dc_hands.specs.Hands.{HoldsCore}
use Rattle.dc_core_turns.proofs.AnswersLater.{answers_acknowledged, answers_holding}
use Rattle.dc_core_turns.proofs.OrderShares.{share_timed, share_once, share_order, stopped_row, stopped_hand}
use Rattle.dc_core_turns.proofs.shutdowns.stop_turn.Goals as goal

pub stop_row-entry-requires-clause-blocks : goal.stop_row-entry-requires-clause-blocks
stop_row-entry-requires-clause-blocks g c κs within = share_timed c.args.stage.now c.requires.opened c.args.pass.now c.args.hand.now c.args.mailbox c.requires.hand

pub stop_row-entry-requires-clause-once : goal.stop_row-entry-requires-clause-once
stop_row-entry-requires-clause-once g c κs within = share_once c.args.stage.now c.requires.opened c.args.pass.now c.args.hand.now c.args.mailbox c.requires.hand

pub acknowledge-turned-requires-clause-order : goal.acknowledge-turned-requires-clause-order
acknowledge-turned-requires-clause-order g c κs within =
    share_order c.args.stage.now c.requires.opened c.args.pass.now c.args.hand.now c.args.mailbox c.requires.hand order.Stop c.requires.order refl
    c.stop_row-entry.new.core c.stop_row-entry.new.mailbox c.stop_row-entry.new.row (block_at_rest c.args.hand.now.core.clock) c.stop_row-entry.ensures.blocks c.stop_row-entry.result c.stop_row-entry.ensures.turn

pub put_blocks-requires-clause-row : goal.put_blocks-requires-clause-row
put_blocks-requires-clause-row g c κs within =
    stopped_row c.args.stage.now c.requires.opened c.args.pass.now c.args.hand.now c.args.mailbox c.requires.hand order.Stop c.requires.order refl
    c.stop_row-entry.new.core c.stop_row-entry.new.mailbox c.stop_row-entry.new.row (block_at_rest c.args.hand.now.core.clock) c.stop_row-entry.ensures.blocks c.stop_row-entry.result c.stop_row-entry.ensures.turn
    c.acknowledge-turned.new.pass c.acknowledge-turned.result c.acknowledge-turned.ensures c.stop_row-entry.ensures.row c.stop_row-entry.ensures.numbers

pub returns-clause-hand : goal.returns-clause-hand
returns-clause-hand g c =
    let put = c.put_blocks.ensures in
    subst (HoldsCore c.args.stage.now c.put_blocks.new.pass) (sym put.hand)
    (stopped_hand c.args.stage.now c.requires.opened c.args.pass.now c.args.hand.now c.args.mailbox c.requires.hand order.Stop c.requires.order refl
    c.stop_row-entry.new.core c.stop_row-entry.new.mailbox c.stop_row-entry.new.row (block_at_rest c.args.hand.now.core.clock) c.stop_row-entry.ensures.blocks c.stop_row-entry.result c.stop_row-entry.ensures.turn
    c.acknowledge-turned.new.pass c.acknowledge-turned.result c.acknowledge-turned.ensures refl c.put_blocks.new.pass
    (subst (HoldsRow c.args.stage.now c.put_blocks.new.pass) put.hand put.row))

pub returns-clause-turn : goal.returns-clause-turn
returns-clause-turn g c =
    answers_holding c.args.stage.now c.args.pass.now c.acknowledge-turned.new.pass c.put_blocks.new.pass c.put_blocks.new.pass.holds 0
    (actor.Core c.args.hand.now.number) action.Order c.acknowledge-turned.result c.put_blocks.ensures.same
    (answers_acknowledged c.args.stage.now c.args.pass.now c.acknowledge-turned.new.pass c.args.hand.now.number c.stop_row-entry.result
    c.acknowledge-turned.result c.acknowledge-turned.ensures)
