use Rattle.std.proofs.Common.{◌++◌, ℕ, List, subst}
use Rattle.std.specs.Prelude.{codes}
use Rattle.dc_base.specs.Report.{report_lines}
use Rattle.dc_base.specs.ReportText.{report_text}
use Rattle.dc_objects.specs.States.{state_of}
use Rattle.dc_base.specs.TextWords.{ended}
use Rattle.dc_io.specs.Told.{Adds, AddsPrefix}
use Rattle.dc_play.specs.ReportLines.{lines_text}
use Rattle.dc_play.proofs.Adding.{prefix_first, writes_failed, writes_behind}
use Rattle.dc_play.proofs.reporting.write_report.Goals as goal

pub returns-in_err-put_line-clause-writes : goal.returns-in_err-put_line-clause-writes
unfolding report_text
returns-in_err-put_line-clause-writes g c =
    let first = g.S.Sink.told c.args.sink.now in
    let now = g.S.Sink.told c.put_line.new.sink in
    let title : List ℕ = ended (codes "report") in
    let lines : List ℕ = lines_text (report_lines (state_of c.args.objects.now)) in
    writes_failed first now (title ++ lines) c.from_residual.result c.from_residual.ensures.0
    (prefix_first first now title lines (subst (λ (t : List ℕ). AddsPrefix first now (ended t)) c.word_line.ensures.text c.in_err-put_line.ensures.writes))

pub returns-clause-writes : goal.returns-clause-writes
unfolding report_text
returns-clause-writes g c =
    let first = g.S.Sink.told c.args.sink.now in
    let mid = g.S.Sink.told c.put_line.new.sink in
    let now = g.S.Sink.told c.write_lines.new.sink in
    let title : List ℕ = ended (codes "report") in
    let lines : List ℕ = lines_text (report_lines (state_of c.args.objects.now)) in
    writes_behind first mid now title lines c.write_lines.result (subst (λ (t : List ℕ). Adds first mid (ended t)) c.word_line.ensures.text c.in_ok-put_line.ensures.writes) c.write_lines.ensures.writes
