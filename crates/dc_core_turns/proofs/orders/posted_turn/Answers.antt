use Rattle.dc_core_turns.proofs.OrderCarried.{posted_has}
use Rattle.dc_core_turns.proofs.OrderTurn.{letter_back, letter_answers}
use Rattle.dc_core_turns.proofs.orders.posted_turn.Goals as goal

pub put_mailbox-requires-clause-held : goal.put_mailbox-requires-clause-held
put_mailbox-requires-clause-held g c κs within = posted_has c.args.stage.now c.requires.opened c.args.pass.now c.args.hand.now c.args.mailbox c.requires.hand

pub returns-in-Err-clause-hand : goal.returns-in-Err-clause-hand
returns-in-Err-clause-hand g c = letter_back c.args.stage.now c.requires.opened c.args.pass.now c.args.hand.now c.args.mailbox c.requires.hand c.put_mailbox.new.pass c.put_mailbox.ensures

pub returns-in-Err-clause-turn : goal.returns-in-Err-clause-turn
returns-in-Err-clause-turn g c =
    letter_answers c.args.stage.now c.requires.opened c.args.pass.now c.args.hand.now c.args.mailbox c.requires.hand c.in-Err.why
    (c.in-Err.ensures.none c.args.hand.now.number.0 c.args.hand.now.core) c.put_mailbox.new.pass c.put_mailbox.ensures
