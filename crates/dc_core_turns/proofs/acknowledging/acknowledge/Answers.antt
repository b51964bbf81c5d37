use Rattle.std.proofs.Common.{refl}
use Rattle.dc_core_turns.proofs.Acknowledged.{entry_actor, entry_lawful, entry_held, mailbox_left, acknowledged}
use Rattle.dc_core_turns.proofs.acknowledging.acknowledge.Goals as goal

pub commit-ticket-requires-clause-actor : goal.commit-ticket-requires-clause-actor
commit-ticket-requires-clause-actor g c κs within = entry_actor c.args.stage.now c.args.pass.now c.args.c c.args.mailbox c.args.entry c.requires.order

pub commit-ticket-requires-clause-lawful : goal.commit-ticket-requires-clause-lawful
commit-ticket-requires-clause-lawful g c κs within = entry_lawful c.args.stage.now c.args.pass.now c.args.c c.args.mailbox c.args.entry c.requires.order

pub commit-ticket-requires-clause-held : goal.commit-ticket-requires-clause-held
commit-ticket-requires-clause-held g c κs within = entry_held c.args.stage.now c.args.pass.now c.args.c c.args.mailbox c.args.entry c.requires.order

pub put_mailbox-requires-clause-held : goal.put_mailbox-requires-clause-held
put_mailbox-requires-clause-held g c κs within =
    mailbox_left c.args.stage.now c.args.pass.now c.args.c c.args.mailbox c.args.entry c.requires.order
    c.commit-ticket.new.pass c.commit-ticket.result.0 c.commit-ticket.ensures

pub returns : goal.returns
returns g c =
    acknowledged c.args.stage.now c.args.pass.now c.args.c c.args.mailbox c.args.entry c.requires.order
    c.commit-ticket.new.pass c.commit-ticket.result.0 c.commit-ticket.ensures c.put_mailbox.new.pass _ c.put_mailbox.ensures refl
