-- One more.
use Rattle.std.proofs.Common.{arith}
use Rattle.std.proofs.lemmas.List.FromFn.{map-range_with_len_more}
use Rattle.dc_base.specs.Generated.{generated_channel}
use Rattle.dc_gen.proofs.images.channels.Goals as goal

pub loop-channel-preserved : goal.loop-channel-preserved
loop-channel-preserved c =
    let e = map-range_with_len_more generated_channel 0 c.loop-channel.channel c.loop-channel.channel (omega arith) in
    cc (c.in_ok-push.ensures.ok)
