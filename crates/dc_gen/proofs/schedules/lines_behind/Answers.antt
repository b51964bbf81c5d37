-- One line more.
use Rattle.std.proofs.Common.{arith}
use Rattle.dc_gen.proofs.Numbers.{lines_more}
use Rattle.dc_gen.proofs.schedules.lines_behind.Goals as goal

pub loop-preserved : goal.loop-preserved
loop-preserved c =
    let e = lines_more c.loop.lines c.args.count c.loop.counter c.loop.x (omega arith) in
    cc (c.in_ok-push.ensures.ok)
