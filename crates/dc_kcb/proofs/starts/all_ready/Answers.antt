use Rattle.std.proofs.Common.{arith}
use Rattle.dc_kcb.proofs.Growing.{ready_length, ready_more}
use Rattle.dc_kcb.proofs.starts.all_ready.Goals as goal

pub push-requires : goal.push-requires
push-requires c = let e = ready_length c.args.disps.now c.loop-d.d c.loop-d.ready.items c.loop-d.invariant (omega arith) in (omega arith, omega (arith, e))

pub loop-d-preserved : goal.loop-d-preserved
loop-d-preserved c = ready_more c.args.disps.now c.loop-d.d c.index-disps-d.result c.loop-d.ready.items c.push.new.self.items c.loop-d.invariant (omega arith) cc
