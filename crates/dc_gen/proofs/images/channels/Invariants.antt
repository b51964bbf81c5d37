use Rattle.std.proofs.Common.{◌≡◌, map}
use Rattle.std.specs.List.{range_with_len}
use Rattle.dc_base.specs.Generated.{generated_channel}
use Rattle.dc_gen.proofs.images.channels.Given as goal

abbrev pub invariant-loop-channel : goal.invariant-loop-channel
invariant-loop-channel l = l.channels ≡ map generated_channel (range_with_len 0 l.channel)
