use Rattle.std.proofs.Common.{arith}
use Rattle.dc_timers.proofs.Turning.{moved-none, moved-more}
use Rattle.dc_timers.proofs.timer_wheels.in_buckets.Goals as goal

pub loop-i-init : goal.loop-i-init
loop-i-init c = moved-none c.args.timers.now c.empty-buckets.result c.empty-buckets.ensures

pub loop-i-preserved : goal.loop-i-preserved
loop-i-preserved c = moved-more c.args.timers.now c.loop-i.i c.loop-i.buckets c.put.new.self _ (omega arith) (omega arith) c.loop-i.invariant c.requires.numbered c.put.ensures
