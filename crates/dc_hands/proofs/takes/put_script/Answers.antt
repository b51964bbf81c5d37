use Rattle.dc_base.specs.Changes.{the_script, script}
use Rattle.dc_hands.proofs.Calling.{puts_object}
use Rattle.dc_hands.proofs.takes.put_script.Goals as goal

pub put-requires-clause-state : goal.put-requires-clause-state
put-requires-clause-state g c κs within =
    puts_object c.args.stage.now c.requires.opened c.args.pass.now the_script (script c.args.object) c.of_script.result c.requires.held c.of_script.ensures.number
