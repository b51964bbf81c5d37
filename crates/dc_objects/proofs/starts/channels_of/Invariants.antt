use Rattle.std.proofs.Common.{◌≡◌, take, map}
use Rattle.dc_base.specs.declared.images.ChanImage.{ChanImage}
use Rattle.dc_objects.specs.Starts.{idle_ring}
use Rattle.dc_objects.proofs.starts.channels_of.Given as goal

abbrev pub invariant-loop-at : goal.invariant-loop-at
invariant-loop-at l = l.channels.items ≡ map (λ (c : ChanImage). idle_ring c.capacity) (take l.at l.image.channels)
