use Rattle.std.specs.Prelude.{Some}
use Rattle.dc_base.specs.Changes.{the_script, script}
use Rattle.dc_scene.specs.Objects.{object_seen}
use Rattle.dc_hands.specs.Machines.{state_after}
use Rattle.dc_hands.proofs.Calling.{got_there, gets_object, kind_there}
use Rattle.dc_hands.proofs.takes.take_script.Goals as goal

pub as_script-requires-clause-kind : goal.as_script-requires-clause-kind
as_script-requires-clause-kind g c κs within =
    kind_there script (Some (state_after c.args.stage.now c.try_take.new.pass.seen).script) (object_seen c.in-Got.found)
    (got_there c.args.stage.now c.requires.opened c.args.pass.now c.try_take.new.pass the_script c.of_script-object.result c.in-Got.found c.of_script-object.ensures.number tt c.in-Got.ensures.tries)

pub returns-in-Got-clause-got : goal.returns-in-Got-clause-got
returns-in-Got-clause-got g c =
    gets_object c.args.stage.now c.requires.opened c.args.pass.now c.try_take.new.pass the_script c.of_script-object.result c.in-Got.found (script c.as_script.result)
    c.of_script-object.ensures.number tt c.as_script.ensures c.in-Got.ensures.tries
