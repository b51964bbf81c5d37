-- The channel is taken before the wake, and put back after it.
use Rattle.dc_hands.specs.declared.hands.CoreHand.{CoreHand}
use Rattle.dc_hands.specs.Machines.{Passing}
use Rattle.dc_core_turns.proofs.WakeAround.{channel_back, channel_beside, channel_busy, channel_free, channel_has, channel_within}
use Rattle.dc_core_turns.proofs.wakes.wake_waiting.Goals as goal

pub take_channel-requires-clause-within : goal.take_channel-requires-clause-within
take_channel-requires-clause-within g c κs within =
    let k : Passing g.row.D.Denot = c.args.pass.now in
    let h : CoreHand g.row.D.Denot = c.args.hand.now in
    let y = c.requires.block in
    channel_within c.args.stage.now c.requires.opened k h c.requires.hand c.args.b c.args.d c.requires.acts c.requires.here y.0 y.1 c.args.wait y.2 c.channel_of-x.result c.channel_of-x.ensures

pub take_channel-requires-clause-free : goal.take_channel-requires-clause-free
take_channel-requires-clause-free g c κs within =
    let k : Passing g.row.D.Denot = c.args.pass.now in
    let h : CoreHand g.row.D.Denot = c.args.hand.now in
    let y = c.requires.block in
    channel_free c.args.stage.now c.requires.opened k h c.requires.hand c.args.b c.args.d c.requires.acts c.requires.here y.0 y.1 c.args.wait y.2 c.channel_of-x.result c.channel_of-x.ensures

pub returns-in-Err : goal.returns-in-Err
returns-in-Err g c =
    let k : Passing g.row.D.Denot = c.args.pass.now in
    let h : CoreHand g.row.D.Denot = c.args.hand.now in
    let y = c.requires.block in
    channel_busy c.args.stage.now c.requires.opened k h c.requires.hand c.args.b c.args.d c.requires.acts c.requires.here y.0 y.1 c.args.wait y.2 c.channel_of-x.result c.channel_of-x.ensures c.take_channel.new.pass c.in-Err.busy c.in-Err.ensures.busy

pub wake_on-turned-requires-clause-hand : goal.wake_on-turned-requires-clause-hand
wake_on-turned-requires-clause-hand g c κs within =
    let k : Passing g.row.D.Denot = c.args.pass.now in
    let h : CoreHand g.row.D.Denot = c.args.hand.now in
    let y = c.requires.block in
    channel_beside c.args.stage.now c.requires.opened k h c.requires.hand c.args.b c.args.d c.requires.acts c.requires.here y.0 y.1 c.args.wait y.2 c.channel_of-x.result c.channel_of-x.ensures c.take_channel.new.pass c.in-Ok.channel c.in-Ok.ensures.got

pub wake_on-turned-requires-clause-channel : goal.wake_on-turned-requires-clause-channel
wake_on-turned-requires-clause-channel g c κs within =
    let k : Passing g.row.D.Denot = c.args.pass.now in
    let h : CoreHand g.row.D.Denot = c.args.hand.now in
    let y = c.requires.block in
    channel_has c.args.stage.now c.requires.opened k h c.requires.hand c.args.b c.args.d c.requires.acts c.requires.here y.0 y.1 c.args.wait y.2 c.channel_of-x.result c.channel_of-x.ensures c.take_channel.new.pass c.in-Ok.channel c.in-Ok.ensures.got

pub returns : goal.returns
returns g c =
    let k : Passing g.row.D.Denot = c.args.pass.now in
    let h : CoreHand g.row.D.Denot = c.args.hand.now in
    let y = c.requires.block in
    channel_back c.args.stage.now c.requires.opened k h c.requires.hand c.args.b c.args.d c.requires.acts c.requires.here y.0 y.1 c.args.wait y.2 c.channel_of-x.result c.channel_of-x.ensures c.take_channel.new.pass c.in-Ok.channel c.in-Ok.ensures.got c.wake_on-turned.new.pass c.put_channel.new.pass c.wake_on-turned.new.hand c.wake_on-turned.result
    c.wake_on-turned.ensures.turn c.put_channel.ensures
