use Rattle.std.specs.Prelude.{slice_get}
use Rattle.dc_base.specs.Changes.{a_block, block}
use Rattle.dc_scene.specs.Objects.{object_seen}
use Rattle.dc_hands.specs.Machines.{state_after}
use Rattle.dc_hands.proofs.Calling.{got_there, gets_object, kind_there}
use Rattle.dc_hands.proofs.takes.take_block.Goals as goal

pub as_block-requires-clause-kind : goal.as_block-requires-clause-kind
as_block-requires-clause-kind g c κs within =
    kind_there block (slice_get (state_after c.args.stage.now c.try_take.new.pass.seen).blocks c.args.b.0) (object_seen c.in-Got.found)
    (got_there c.args.stage.now c.requires.opened c.args.pass.now c.try_take.new.pass (a_block c.args.b.0) c.of_block-object.result c.in-Got.found c.of_block-object.ensures.number c.requires.within c.in-Got.ensures.tries)

pub returns-in-Got-clause-got : goal.returns-in-Got-clause-got
returns-in-Got-clause-got g c =
    gets_object c.args.stage.now c.requires.opened c.args.pass.now c.try_take.new.pass (a_block c.args.b.0) c.of_block-object.result c.in-Got.found (block c.as_block.result)
    c.of_block-object.ensures.number c.requires.within c.as_block.ensures c.in-Got.ensures.tries
