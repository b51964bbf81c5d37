-- Dispatchers that wait on a channel.
use Rattle.std.specs.Prelude.{nat_lt, Bool, not, Option, Some, None, length}
use Rattle.dc_base.specs.declared.dispatchers.DispState.{DispState}
use Rattle.dc_base.specs.declared.dispatchers.DispState.TheVariants as disp
use Rattle.dc_base.specs.declared.dispatchers.Wait.TheVariants as wait
use Rattle.dc_base.specs.declared.numbers.ChanNo.{ChanNo}
use Rattle.dc_base.specs.Channels.{Ring, is_full}
use Rattle.dc_bodies.specs.declared.wakes.ChannelWait.{ChannelWait}
use Rattle.dc_bodies.specs.declared.wakes.ChannelWait.TheVariants as channel

-- the channel on which a dispatcher waits, to send or to receive, if it does
abbrev pub channel_wait : Option DispState → Option ChannelWait
channel_wait (Some (disp.Waits (wait.Csend y))) = Some (channel.Sends y)
channel_wait (Some (disp.Waits (wait.Crecv y))) = Some (channel.Receives y)
channel_wait o = None

abbrev pub channel_of : ChannelWait → ChanNo
channel_of (channel.Sends y) = y
channel_of (channel.Receives y) = y

-- a sender can go on where there is room, a receiver where there is a message
abbrev pub goes_on : ChannelWait → Ring → Bool
goes_on (channel.Sends y) r = not (is_full r)
goes_on (channel.Receives y) r = nat_lt 0 (length r.untaken)
