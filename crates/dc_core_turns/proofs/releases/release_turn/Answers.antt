use Rattle.dc_base.specs.declared.actions.Action.TheVariants as action
use Rattle.dc_base.specs.declared.actions.Actor.TheVariants as actor
use Rattle.dc_hands.specs.Machines.{number_of}
use Rattle.dc_base.specs.Changes.{a_block}
use Rattle.dc_core_turns.proofs.AnswersLater.{answers_acknowledged, answers_put}
use Rattle.dc_core_turns.proofs.OrderReleases.{released_in_row, released_timed, release_order, release_has, release_hand}
use Rattle.dc_core_turns.proofs.releases.release_turn.Goals as goal

pub remove-block-requires-after_bounds : goal.remove-block-requires-after_bounds
remove-block-requires-after_bounds g c κs within =
    released_in_row c.args.stage.now c.requires.opened c.args.pass.now c.args.hand.now c.args.mailbox c.requires.hand c.args.b c.requires.order

pub release_held-entry-requires-clause-block : goal.release_held-entry-requires-clause-block
release_held-entry-requires-clause-block g c κs within =
    released_timed c.args.stage.now c.requires.opened c.args.pass.now c.args.hand.now c.args.mailbox c.requires.hand c.args.b c.requires.order
    c.remove-block.result c.remove-block.ensures.block

pub acknowledge-turned-requires-clause-order : goal.acknowledge-turned-requires-clause-order
acknowledge-turned-requires-clause-order g c κs within =
    release_order c.args.stage.now c.requires.opened c.args.pass.now c.args.hand.now c.args.mailbox c.requires.hand c.args.b c.requires.order
    c.remove-block.result c.remove-block.ensures.block
    c.release_held-entry.new.core c.release_held-entry.new.mailbox c.release_held-entry.new.block c.release_held-entry.result c.release_held-entry.ensures

pub put_block-requires-clause-held : goal.put_block-requires-clause-held
put_block-requires-clause-held g c κs within =
    release_has c.args.stage.now c.requires.opened c.args.pass.now c.args.hand.now c.args.mailbox c.requires.hand c.args.b c.requires.order
    c.remove-block.result c.remove-block.ensures.block
    c.release_held-entry.new.core c.release_held-entry.new.mailbox c.release_held-entry.new.block c.release_held-entry.result c.release_held-entry.ensures
    c.acknowledge-turned.new.pass c.acknowledge-turned.result c.acknowledge-turned.ensures
    c.remove-block.new.self c.remove-block.ensures.gone c.remove-block.ensures.others

pub returns-clause-hand : goal.returns-clause-hand
returns-clause-hand g c =
    release_hand c.args.stage.now c.requires.opened c.args.pass.now c.args.hand.now c.args.mailbox c.requires.hand c.args.b c.requires.order
    c.remove-block.result c.remove-block.ensures.block
    c.release_held-entry.new.core c.release_held-entry.new.mailbox c.release_held-entry.new.block c.release_held-entry.result c.release_held-entry.ensures
    c.acknowledge-turned.new.pass c.acknowledge-turned.result c.acknowledge-turned.ensures
    c.remove-block.new.self c.remove-block.ensures.gone c.remove-block.ensures.others c.put_block.new.pass c.put_block.ensures

pub returns-clause-turn : goal.returns-clause-turn
returns-clause-turn g c =
    answers_put c.args.stage.now c.args.pass.now c.acknowledge-turned.new.pass c.put_block.new.pass (number_of c.args.stage.now (a_block c.args.b.0)) 0
    (actor.Core c.args.hand.now.number) action.Order c.acknowledge-turned.result c.put_block.ensures
    (answers_acknowledged c.args.stage.now c.args.pass.now c.acknowledge-turned.new.pass c.args.hand.now.number c.release_held-entry.result
    c.acknowledge-turned.result c.acknowledge-turned.ensures)
