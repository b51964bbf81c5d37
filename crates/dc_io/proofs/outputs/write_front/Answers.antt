use Rattle.std.proofs.Common.{rules, length, take, drop, ◌-◌}
use Rattle.dc_io.proofs.Adding.{adds_more}
use Rattle.dc_io.proofs.Unwritten.{appended}
use Rattle.dc_io.proofs.outputs.write_front.Goals as goal

pub loop-at-preserved : goal.loop-at-preserved
loop-at-preserved g c = record {
  within = search rules;
  taken =
      adds_more c.loop-at.at c.in-Ok.taken c.args.bytes.now c.loop-at.invariant.taken
      (appended (g.W.Write.contents c.loop-at.out) (g.W.Write.contents c.write.new.self) (take c.in-Ok.taken (take (length c.args.bytes.now - c.loop-at.at) (drop c.loop-at.at c.args.bytes.now))) c.in-Ok.ensures.bytes);
}
