-- The object is taken by its kind.
use Rattle.dc_core_turns.proofs.OutsideTaken.{channel_got, channel_within, console_got, console_within}
use Rattle.dc_core_turns.proofs.outsides.take_outside.Goals as goal

pub take_console-requires-clause-within : goal.take_console-requires-clause-within
take_console-requires-clause-within g c κs within = console_within c.args.stage.now c.args.pass.now c.args.pass.now c.args.b.0 c.args.need c.requires.within c.in-Console.is

pub take_channel-requires-clause-within : goal.take_channel-requires-clause-within
take_channel-requires-clause-within g c κs within = channel_within c.args.stage.now c.args.pass.now c.args.pass.now c.args.b.0 c.args.need c.requires.within c.in-Channel.x c.in-Channel.is

pub returns-in-Ok-clause-got : goal.returns-in-Ok-clause-got
returns-in-Ok-clause-got g c =
    console_got c.args.stage.now c.args.pass.now c.take_console.new.pass c.args.b.0 c.args.need c.requires.within c.in-Console.is c.in-Ok.console c.in-Ok.ensures.got

pub returns-in-Ok-take_channel-clause-got : goal.returns-in-Ok-take_channel-clause-got
returns-in-Ok-take_channel-clause-got g c =
    channel_got c.args.stage.now c.args.pass.now c.take_channel.new.pass c.args.b.0 c.args.need c.requires.within c.in-Channel.x c.in-Channel.is c.in-Ok-take_channel.channel c.in-Ok-take_channel.ensures.got
