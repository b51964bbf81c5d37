use Rattle.std.proofs.Common.{ℕ, List, ◌++◌, subst}
use Rattle.dc_base.specs.EntryText.{journal_text}
use Rattle.dc_base.specs.Report.{report_lines}
use Rattle.dc_base.specs.ReportText.{report_text, end_text}
use Rattle.dc_base.specs.TextWords.{ended}
use Rattle.dc_objects.specs.States.{state_of}
use Rattle.dc_play.proofs.Adding.{adds_more, prefix_behind, prefix_first, writes_failed, writes_behind}
use Rattle.dc_play.specs.Written.{Writes}
use Rattle.dc_run.specs.Texts.{text_of}
use Rattle.dc_run.proofs.texts.write_text.Goals as goal

pub returns-in_err-write_report-clause-writes : goal.returns-in_err-write_report-clause-writes
returns-in_err-write_report-clause-writes g c =
    let first = g.S.Sink.told c.args.sink.now in
    let mid = g.S.Sink.told c.write_journal.new.sink in
    let now = g.S.Sink.told c.write_report.new.sink in
    let s = state_of c.args.objects.now in
    let journal : List ℕ = journal_text c.args.journal.now in
    let report : List ℕ = report_text (report_lines s) in
    writes_failed first now (text_of c.args.journal.now s) c.from_residual-in_err-write_report.result c.from_residual-in_err-write_report.ensures.0
    (prefix_first first now (journal ++ report) (ended end_text)
    (prefix_behind first mid now journal report c.in_ok-write_journal.ensures.writes c.in_err-write_report.ensures.writes))

pub returns-clause-writes : goal.returns-clause-writes
returns-clause-writes g c =
    let first = g.S.Sink.told c.args.sink.now in
    let mid = g.S.Sink.told c.write_journal.new.sink in
    let then = g.S.Sink.told c.write_report.new.sink in
    let now = g.S.Sink.told c.put_line.new.sink in
    let journal : List ℕ = journal_text c.args.journal.now in
    let report : List ℕ = report_text (report_lines (state_of c.args.objects.now)) in
    writes_behind first then now (journal ++ report) (ended end_text) c.put_line.result
    (adds_more first mid then journal report c.in_ok-write_journal.ensures.writes c.in_ok-write_report.ensures.writes)
    (subst (λ (t : List ℕ). Writes then now (ended t) c.put_line.result) c.word_line.ensures.text c.put_line.ensures.writes)
