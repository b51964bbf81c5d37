use Rattle.std.specs.Prelude.{slice_get}
use Rattle.dc_base.specs.Changes.{a_core, core}
use Rattle.dc_scene.specs.Objects.{object_seen}
use Rattle.dc_hands.specs.Machines.{state_after}
use Rattle.dc_hands.proofs.Calling.{got_there, gets_object, kind_there}
use Rattle.dc_hands.proofs.takes.take_core.Goals as goal

pub as_core-requires-clause-kind : goal.as_core-requires-clause-kind
as_core-requires-clause-kind g c κs within =
    kind_there core (slice_get (state_after c.args.stage.now c.try_take.new.pass.seen).cores c.args.c.0) (object_seen c.in-Got.found)
    (got_there c.args.stage.now c.requires.opened c.args.pass.now c.try_take.new.pass (a_core c.args.c.0) c.of_core-object.result c.in-Got.found c.of_core-object.ensures.number c.requires.within c.in-Got.ensures.tries)

pub returns-in-Got-clause-got : goal.returns-in-Got-clause-got
returns-in-Got-clause-got g c =
    gets_object c.args.stage.now c.requires.opened c.args.pass.now c.try_take.new.pass (a_core c.args.c.0) c.of_core-object.result c.in-Got.found (core c.as_core.result)
    c.of_core-object.ensures.number c.requires.within c.as_core.ensures c.in-Got.ensures.tries
