-- One line more.
use Rattle.dc_gen.proofs.Numbers.{line_more}
use Rattle.dc_gen.proofs.scripts.push_replaced.Goals as goal

pub loop-core-preserved : goal.loop-core-preserved
loop-core-preserved c =
    let e = line_more c.args.script.now c.loop-core.core in
    cc (c.in_ok-push.ensures.ok)
