use Rattle.dc_base.specs.Changes.{a_console, console}
use Rattle.dc_hands.proofs.Calling.{puts_object}
use Rattle.dc_hands.proofs.takes.put_console.Goals as goal

pub put-requires-clause-state : goal.put-requires-clause-state
put-requires-clause-state g c κs within =
    puts_object c.args.stage.now c.requires.opened c.args.pass.now (a_console c.args.b.0) (console c.args.object) c.of_console.result c.requires.held c.of_console.ensures.number
