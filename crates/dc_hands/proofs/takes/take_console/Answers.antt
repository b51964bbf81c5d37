use Rattle.std.specs.Prelude.{slice_get}
use Rattle.dc_base.specs.Changes.{a_console, console}
use Rattle.dc_scene.specs.Objects.{object_seen}
use Rattle.dc_hands.specs.Machines.{state_after}
use Rattle.dc_hands.proofs.Calling.{got_there, gets_object, kind_there}
use Rattle.dc_hands.proofs.takes.take_console.Goals as goal

pub as_console-requires-clause-kind : goal.as_console-requires-clause-kind
as_console-requires-clause-kind g c κs within =
    kind_there console (slice_get (state_after c.args.stage.now c.try_take.new.pass.seen).consoles c.args.b.0) (object_seen c.in-Got.found)
    (got_there c.args.stage.now c.requires.opened c.args.pass.now c.try_take.new.pass (a_console c.args.b.0) c.of_console-object.result c.in-Got.found c.of_console-object.ensures.number c.requires.within c.in-Got.ensures.tries)

pub returns-in-Got-clause-got : goal.returns-in-Got-clause-got
returns-in-Got-clause-got g c =
    gets_object c.args.stage.now c.requires.opened c.args.pass.now c.try_take.new.pass (a_console c.args.b.0) c.of_console-object.result c.in-Got.found (console c.as_console.result)
    c.of_console-object.ensures.number c.requires.within c.as_console.ensures c.in-Got.ensures.tries
