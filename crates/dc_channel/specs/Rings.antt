-- How contracts see a channel: as the ring of the machine with cores.
use Rattle.std.specs.Prelude.{◌≡◌, ◌+◌, ◌<◌, ◌≤◌, length}
use Rattle.dc_base.specs.Channels.{Ring}
use Rattle.dc_channel.specs.declared.channel.Channel.TheInside.{Inside}

abbrev pub ring_of : Inside → Ring
ring_of c = record { capacity = c.untaken.capacity; untaken = c.untaken.items; sent = c.sent; taken = c.taken }

-- the counts agree with what is untaken, and the capacity is 1 to 64
pub record IsChannel (c : Inside) : Type 0 where
  pub sum : c.sent ≡ c.taken + length c.untaken.items
  pub room : length c.untaken.items ≤ c.untaken.capacity
  pub some : 0 < c.untaken.capacity
  pub within : c.untaken.capacity ≤ 64
