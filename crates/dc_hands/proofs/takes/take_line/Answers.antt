use Rattle.std.specs.Prelude.{slice_get}
use Rattle.dc_base.specs.Changes.{a_line, wire}
use Rattle.dc_scene.specs.Objects.{object_seen}
use Rattle.dc_hands.specs.Machines.{state_after}
use Rattle.dc_hands.proofs.Calling.{got_there, gets_object, kind_there}
use Rattle.dc_hands.proofs.takes.take_line.Goals as goal

pub as_line-requires-clause-kind : goal.as_line-requires-clause-kind
as_line-requires-clause-kind g c κs within =
    kind_there wire (slice_get (state_after c.args.stage.now c.try_take.new.pass.seen).lines c.args.l.0) (object_seen c.in-Got.found)
    (got_there c.args.stage.now c.requires.opened c.args.pass.now c.try_take.new.pass (a_line c.args.l.0) c.of_line-object.result c.in-Got.found c.of_line-object.ensures.number c.requires.within c.in-Got.ensures.tries)

pub returns-in-Got-clause-got : goal.returns-in-Got-clause-got
returns-in-Got-clause-got g c =
    gets_object c.args.stage.now c.requires.opened c.args.pass.now c.try_take.new.pass (a_line c.args.l.0) c.of_line-object.result c.in-Got.found (wire c.as_line.result)
    c.of_line-object.ensures.number c.requires.within c.as_line.ensures c.in-Got.ensures.tries
