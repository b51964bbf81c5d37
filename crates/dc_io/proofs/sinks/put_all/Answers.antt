use Rattle.std.proofs.Common.{rules}
use Rattle.dc_io.proofs.Adding.{adds_more, adds_front}
use Rattle.dc_io.proofs.sinks.put_all.Goals as goal

pub loop-at-preserved : goal.loop-at-preserved
loop-at-preserved g c = record {
  within = search rules;
  taken = adds_more c.loop-at.at c.in-Ok.taken c.args.piece.now c.loop-at.invariant.taken c.in-Ok.ensures.taken;
  grows = search rules;
}

pub returns-in-Err-clause-err : goal.returns-in-Err-clause-err
returns-in-Err-clause-err g c = adds_front c.loop-at.at c.args.piece.now c.loop-at.invariant.taken c.in-Err.ensures.nothing
