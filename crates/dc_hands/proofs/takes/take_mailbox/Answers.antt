use Rattle.std.specs.Prelude.{slice_get}
use Rattle.dc_base.specs.Changes.{a_mailbox, mailbox}
use Rattle.dc_scene.specs.Objects.{object_seen}
use Rattle.dc_hands.specs.Machines.{state_after}
use Rattle.dc_hands.proofs.Calling.{got_there, gets_object, kind_there}
use Rattle.dc_hands.proofs.takes.take_mailbox.Goals as goal

pub as_mailbox-requires-clause-kind : goal.as_mailbox-requires-clause-kind
as_mailbox-requires-clause-kind g c κs within =
    kind_there mailbox (slice_get (state_after c.args.stage.now c.try_take.new.pass.seen).mailboxes c.args.c.0) (object_seen c.in-Got.found)
    (got_there c.args.stage.now c.requires.opened c.args.pass.now c.try_take.new.pass (a_mailbox c.args.c.0) c.of_mailbox-object.result c.in-Got.found c.of_mailbox-object.ensures.number c.requires.within c.in-Got.ensures.tries)

pub returns-in-Got-clause-got : goal.returns-in-Got-clause-got
returns-in-Got-clause-got g c =
    gets_object c.args.stage.now c.requires.opened c.args.pass.now c.try_take.new.pass (a_mailbox c.args.c.0) c.of_mailbox-object.result c.in-Got.found (mailbox c.as_mailbox.result)
    c.of_mailbox-object.ensures.number c.requires.within c.as_mailbox.ensures c.in-Got.ensures.tries
