use Rattle.dc_base.specs.declared.actions.Action.TheVariants as action
use Rattle.dc_base.specs.declared.actions.Actor.TheVariants as actor
use Rattle.dc_base.specs.Changes.{a_block, block}
use Rattle.dc_core_turns.proofs.AnswersLater.{answers_taken}
use Rattle.dc_core_turns.proofs.OrderAdoptions.{offered_within, offered_free, offered_taken, missed_has, missed_hand, missed_answers}
use Rattle.dc_core_turns.proofs.adoptions.adopt_turn.Goals as goal

pub take_block-requires-clause-within : goal.take_block-requires-clause-within
take_block-requires-clause-within g c κs within = offered_within c.args.stage.now c.requires.opened c.args.pass.now c.args.hand.now c.args.mailbox c.requires.hand c.args.b c.args.parked c.requires.order

pub take_block-requires-clause-free : goal.take_block-requires-clause-free
take_block-requires-clause-free g c κs within = offered_free c.args.stage.now c.requires.opened c.args.pass.now c.args.hand.now c.args.mailbox c.requires.hand c.args.b c.args.parked c.requires.order

pub adopt_taken-requires-clause-hand : goal.adopt_taken-requires-clause-hand
adopt_taken-requires-clause-hand g c κs within =
    offered_taken c.args.stage.now c.requires.opened c.args.pass.now c.args.hand.now c.args.mailbox c.requires.hand c.args.b c.args.parked c.requires.order
    c.take_block.new.pass c.in-Ok.block c.in-Ok.ensures.got

pub put_mailbox-requires-clause-held : goal.put_mailbox-requires-clause-held
put_mailbox-requires-clause-held g c κs within =
    missed_has c.args.stage.now c.requires.opened c.args.pass.now c.args.hand.now c.args.mailbox c.requires.hand c.args.b c.args.parked c.requires.order
    c.take_block.new.pass c.in-Err.busy c.in-Err.ensures.busy

pub returns-in-Ok-clause-turn : goal.returns-in-Ok-clause-turn
returns-in-Ok-clause-turn g c =
    answers_taken c.args.stage.now c.args.pass.now c.take_block.new.pass (a_block c.args.b.0) (block c.in-Ok.block) c.in-Ok.ensures.got
    c.adopt_taken.new.pass 0 (actor.Core c.args.hand.now.number) action.Order c.adopt_taken.result c.adopt_taken.ensures.turn

pub returns-in-Err-clause-hand : goal.returns-in-Err-clause-hand
returns-in-Err-clause-hand g c =
    missed_hand c.args.stage.now c.requires.opened c.args.pass.now c.args.hand.now c.args.mailbox c.requires.hand c.args.b c.args.parked c.requires.order
    c.take_block.new.pass c.in-Err.busy c.in-Err.ensures.busy c.put_mailbox.new.pass c.put_mailbox.ensures

pub returns-in-Err-clause-turn : goal.returns-in-Err-clause-turn
returns-in-Err-clause-turn g c =
    missed_answers c.args.stage.now c.requires.opened c.args.pass.now c.args.hand.now c.args.mailbox c.requires.hand c.args.b c.args.parked c.requires.order
    c.take_block.new.pass c.in-Err.busy c.in-Err.ensures.busy c.put_mailbox.new.pass c.put_mailbox.ensures
