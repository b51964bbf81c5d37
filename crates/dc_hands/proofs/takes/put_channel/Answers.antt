use Rattle.dc_base.specs.Changes.{a_channel, channel}
use Rattle.dc_hands.proofs.Calling.{puts_object}
use Rattle.dc_hands.proofs.takes.put_channel.Goals as goal

pub put-requires-clause-state : goal.put-requires-clause-state
put-requires-clause-state g c κs within =
    puts_object c.args.stage.now c.requires.opened c.args.pass.now (a_channel c.args.x.0) (channel c.args.object) c.of_channel.result c.requires.held c.of_channel.ensures.number
