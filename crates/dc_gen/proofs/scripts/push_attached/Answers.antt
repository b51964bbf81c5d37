-- Two lines more.
use Rattle.dc_gen.proofs.Numbers.{two_more}
use Rattle.dc_gen.proofs.scripts.push_attached.Goals as goal

pub loop-core-preserved : goal.loop-core-preserved
loop-core-preserved c =
    let e = two_more c.args.script.now c.loop-core.core in
    cc (c.in_ok-push.ensures.ok, c.in_ok-push-2.ensures.ok)
