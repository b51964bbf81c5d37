use Rattle.dc_base.specs.Changes.{a_core, core}
use Rattle.dc_hands.proofs.Calling.{puts_object}
use Rattle.dc_hands.proofs.takes.put_core.Goals as goal

pub put-requires-clause-state : goal.put-requires-clause-state
put-requires-clause-state g c κs within =
    puts_object c.args.stage.now c.requires.opened c.args.pass.now (a_core c.args.c.0) (core c.args.object) c.of_core.result c.requires.held c.of_core.ensures.number
