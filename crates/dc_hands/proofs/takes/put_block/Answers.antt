use Rattle.dc_base.specs.Changes.{a_block, block}
use Rattle.dc_hands.proofs.Calling.{puts_object}
use Rattle.dc_hands.proofs.takes.put_block.Goals as goal

pub put-requires-clause-state : goal.put-requires-clause-state
put-requires-clause-state g c κs within =
    puts_object c.args.stage.now c.requires.opened c.args.pass.now (a_block c.args.b.0) (block c.args.object) c.of_block.result c.requires.held c.of_block.ensures.number
