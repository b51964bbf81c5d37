use Rattle.dc_base.specs.declared.actions.Action.TheVariants as action
use Rattle.dc_base.specs.declared.actions.Actor.TheVariants as actor
use Rattle.dc_base.specs.Changes.{a_mailbox, mailbox}
use Rattle.dc_core_turns.proofs.AnswersLater.{answers_taken}
use Rattle.dc_core_turns.proofs.OrderCarried.{posted_taken}
use Rattle.dc_core_turns.proofs.OrderTurn.{letter_within, letter_free, letter_missed, letter_refused}
use Rattle.dc_core_turns.proofs.orders.order_turn.Goals as goal

pub take_mailbox-requires-clause-within : goal.take_mailbox-requires-clause-within
take_mailbox-requires-clause-within g c κs within = letter_within c.args.stage.now c.requires.opened c.args.pass.now c.args.hand.now c.requires.hand

pub take_mailbox-requires-clause-free : goal.take_mailbox-requires-clause-free
take_mailbox-requires-clause-free g c κs within = letter_free c.args.stage.now c.requires.opened c.args.pass.now c.args.hand.now c.requires.hand

pub posted_turn-requires-clause-hand : goal.posted_turn-requires-clause-hand
posted_turn-requires-clause-hand g c κs within =
    posted_taken c.args.stage.now c.requires.opened c.args.pass.now c.take_mailbox.new.pass c.args.hand.now c.in-Ok.mailbox c.requires.hand c.in-Ok.ensures.got

pub returns-in-Ok-clause-turn : goal.returns-in-Ok-clause-turn
returns-in-Ok-clause-turn g c =
    answers_taken c.args.stage.now c.args.pass.now c.take_mailbox.new.pass (a_mailbox c.args.hand.now.number.0) (mailbox c.in-Ok.mailbox) c.in-Ok.ensures.got
    c.posted_turn.new.pass 0 (actor.Core c.args.hand.now.number) action.Order c.posted_turn.result c.posted_turn.ensures.turn

pub returns-in-Err-clause-hand : goal.returns-in-Err-clause-hand
returns-in-Err-clause-hand g c = letter_missed c.args.stage.now c.requires.opened c.args.pass.now c.args.hand.now c.requires.hand c.take_mailbox.new.pass c.in-Err.busy c.in-Err.ensures.busy

pub returns-in-Err-clause-turn : goal.returns-in-Err-clause-turn
returns-in-Err-clause-turn g c = letter_refused c.args.stage.now c.requires.opened c.args.pass.now c.args.hand.now c.requires.hand c.take_mailbox.new.pass c.in-Err.busy c.in-Err.ensures.busy
