use Rattle.dc_base.specs.Changes.{a_line, wire}
use Rattle.dc_hands.proofs.Calling.{puts_object}
use Rattle.dc_hands.proofs.takes.put_line.Goals as goal

pub put-requires-clause-state : goal.put-requires-clause-state
put-requires-clause-state g c κs within =
    puts_object c.args.stage.now c.requires.opened c.args.pass.now (a_line c.args.l.0) (wire c.args.object) c.of_line.result c.requires.held c.of_line.ensures.number
