use Rattle.std.proofs.Common.{rules, arith}
use Rattle.dc_exec.proofs.Changed.{newest_found, older_counts}
use Rattle.dc_exec.proofs.windows.word_under.Goals as goal

pub returns-then-changes-i : goal.returns-then-changes-i
returns-then-changes-i c = newest_found c.args.words.now c.args.changes.now c.loop-i.i c.args.address _ (omega arith) (omega arith) c.loop-i.invariant c.requires (search rules)

pub loop-i-preserved : goal.loop-i-preserved
loop-i-preserved c = older_counts c.args.words.now c.args.changes.now c.loop-i.i c.args.address _ (omega arith) (omega arith) c.loop-i.invariant (search rules)
