-- The objects outside blocks stand as after the change.
use Rattle.std.proofs.Common.{refl}
use Rattle.dc_machine.proofs.Putting.{put_nothing, put_console, put_channel, put_line}
use Rattle.dc_machine.proofs.outsides.put_outside.Goals as goal

pub returns-in-Nothing-clause-outside : goal.returns-in-Nothing-clause-outside
returns-in-Nothing-clause-outside g c s h same = put_nothing s c.args.objects.now c.args.b.0 c.args.need c.args.outside c.in-Nothing.is c.requires.kind h same

pub returns-in-Console-clause-outside : goal.returns-in-Console-clause-outside
returns-in-Console-clause-outside g c s h same = put_console s c.args.objects.now c.args.b.0 _ c.args.need c.args.outside c.in-Console.console c.in-Console.is c.requires.kind h c.put_down.ensures refl refl

pub returns-in-Channel-need-clause-outside : goal.returns-in-Channel-need-clause-outside
returns-in-Channel-need-clause-outside g c s h same = put_channel s c.args.objects.now c.args.b.0 _ c.args.need c.args.outside c.in-Channel-need.x c.in-Channel.channel c.in-Channel.is c.in-Channel-need.is h c.put_down-in-Channel-need.ensures refl refl

pub returns-in-Line-need-clause-outside : goal.returns-in-Line-need-clause-outside
returns-in-Line-need-clause-outside g c s h same = put_line s c.args.objects.now c.args.b.0 _ c.args.need c.args.outside c.in-Line-need.l c.in-Line.line c.in-Line.is c.in-Line-need.is h same c.put_down-in-Line-need.ensures refl refl
