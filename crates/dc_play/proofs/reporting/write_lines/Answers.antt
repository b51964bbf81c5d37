use Rattle.std.proofs.Common.{ℕ, List, subst, arith}
use Rattle.dc_base.specs.Report.{report_lines}
use Rattle.dc_base.specs.TextWords.{ended}
use Rattle.dc_io.specs.Told.{Adds, AddsPrefix}
use Rattle.dc_objects.specs.States.{state_of}
use Rattle.dc_report.specs.Remaining.{rest}
use Rattle.dc_play.proofs.Telling.{tells_on, telling_fails}
use Rattle.dc_play.proofs.reporting.write_lines.Goals as goal

pub loop-line-preserved : goal.loop-line-preserved
loop-line-preserved g c =
    let s = state_of c.args.objects.now in
    let now = g.S.Sink.told c.loop-line.sink in
    let later = g.S.Sink.told c.put_ended.new.sink in
    record {
      telling =
          tells_on (report_lines s) (rest c.loop-line.report s) (g.S.Sink.told c.args.sink.now) now c.loop-line.invariant.telling c.in-Some.line (rest c.next.new.self s) c.in-Some.ensures.told later
          (subst (λ (t : List ℕ). Adds now later (ended t)) c.push_report_line.ensures.text c.in-Ok.ensures.writes);
      grow = omega (arith, c.loop-line.invariant.grow, c.put_ended.ensures.grows);
    }

pub returns-in-Err-clause-writes : goal.returns-in-Err-clause-writes
returns-in-Err-clause-writes g c =
    let s = state_of c.args.objects.now in
    let now = g.S.Sink.told c.loop-line.sink in
    let later = g.S.Sink.told c.put_ended.new.sink in
    telling_fails (report_lines s) (rest c.loop-line.report s) (g.S.Sink.told c.args.sink.now) now c.loop-line.invariant.telling c.in-Some.line (rest c.next.new.self s) c.in-Some.ensures.told later
    (subst (λ (t : List ℕ). AddsPrefix now later (ended t)) c.push_report_line.ensures.text c.in-Err.ensures.writes)
