-- One more.
use Rattle.std.proofs.Common.{arith}
use Rattle.std.proofs.lemmas.List.FromFn.{map-range_with_len_more}
use Rattle.dc_base.specs.Generated.{generated_core}
use Rattle.dc_gen.proofs.images.cores.Goals as goal

pub loop-core-preserved : goal.loop-core-preserved
loop-core-preserved c =
    let e = map-range_with_len_more generated_core 0 c.loop-core.core c.loop-core.core (omega arith) in
    cc (c.in_ok-push.ensures.ok)
