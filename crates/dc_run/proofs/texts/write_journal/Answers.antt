use Rattle.std.proofs.Common.{ℕ, List, subst, arith}
use Rattle.dc_base.specs.TextWords.{ended}
use Rattle.dc_io.specs.Told.{Adds, AddsPrefix}
use Rattle.dc_run.proofs.JournalLines.{no_lines, all_lines, line_more, line_fails}
use Rattle.dc_play.proofs.Rises.{rose_since}
use Rattle.dc_run.proofs.texts.write_journal.Goals as goal

pub loop-i-init : goal.loop-i-init
loop-i-init g c = record {
  text = no_lines c.args.journal.now (g.S.Sink.told c.args.sink.now);
  grow = omega arith;
}

pub loop-i-preserved : goal.loop-i-preserved
loop-i-preserved g c =
    let now = g.S.Sink.told c.loop-i.sink in
    let later = g.S.Sink.told c.put_line.new.sink in
    record {
      text = line_more c.args.journal.now c.loop-i.i _ c.loop-i-test.true (g.S.Sink.told c.args.sink.now) now later c.loop-i.invariant.text
          (subst (λ (t : List ℕ). Adds now later (ended t)) c.entry_line.ensures.text c.in-Ok.ensures.writes);
      grow = omega (arith, c.loop-i.invariant.grow, c.put_line.ensures.grows);
    }

pub returns-in-Err-clause-writes : goal.returns-in-Err-clause-writes
returns-in-Err-clause-writes g c =
    let now = g.S.Sink.told c.loop-i.sink in
    let later = g.S.Sink.told c.put_line.new.sink in
    line_fails c.args.journal.now c.loop-i.i _ c.loop-i-test.true (g.S.Sink.told c.args.sink.now) now later c.loop-i.invariant.text
    (subst (λ (t : List ℕ). AddsPrefix now later (ended t)) c.entry_line.ensures.text c.in-Err.ensures.writes)

pub returns-in-Err-clause-failed : goal.returns-in-Err-clause-failed
returns-in-Err-clause-failed g c = rose_since _ _ _ c.loop-i.invariant.grow c.in-Err.ensures.failed

pub returns-clause-writes : goal.returns-clause-writes
returns-clause-writes g c =
    let told = g.S.Sink.told c.args.sink.now in
    let now = g.S.Sink.told c.loop-i.sink in
    let all = all_lines c.args.journal.now c.loop-i.i (omega (arith, c.loop-i-test.false)) in
    subst (λ (t : List ℕ). Adds told now t) all c.loop-i.invariant.text
