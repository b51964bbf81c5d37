use Rattle.dc_base.specs.Changes.{a_mailbox, mailbox}
use Rattle.dc_hands.proofs.Calling.{puts_object}
use Rattle.dc_hands.proofs.takes.put_mailbox.Goals as goal

pub put-requires-clause-state : goal.put-requires-clause-state
put-requires-clause-state g c κs within =
    puts_object c.args.stage.now c.requires.opened c.args.pass.now (a_mailbox c.args.c.0) (mailbox c.args.object) c.of_mailbox.result c.requires.held c.of_mailbox.ensures.number
