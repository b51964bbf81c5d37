use Rattle.std.proofs.Common.{length}
use Rattle.dc_mdb.specs.Links.{nodes_of}
use Rattle.dc_mdb.proofs.Steps.{reaches_next}
use Rattle.dc_mdb.proofs.links.is_below.Goals as goal

pub loop-preserved : goal.loop-preserved
loop-preserved c = reaches_next (length c.args.links.now) c.loop.counter (nodes_of c.args.links.now) c.args.s c.in-Some.p c.loop.above c.parent_of-above.result _ c.loop-test.true c.in-Some.is c.if-p-s.false c.parent_of-above.ensures c.loop.invariant
