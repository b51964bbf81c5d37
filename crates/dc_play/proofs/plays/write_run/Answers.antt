use Rattle.dc_base.specs.CoreRuns.{Run, core_run_from}
use Rattle.dc_base.specs.PlayText.{played_text}
use Rattle.dc_objects.specs.States.{state_of}
use Rattle.dc_play.proofs.Adding.{writes_failed}
use Rattle.dc_play.proofs.PlayTexts.{journal_fails, report_fails, end_written}
use Rattle.dc_play.proofs.plays.write_run.Goals as goal

pub returns-in_err-skipped-clause-writes : goal.returns-in_err-skipped-clause-writes
returns-in_err-skipped-clause-writes g c =
    let first = g.S.Sink.told c.args.sink.now in
    let now = g.S.Sink.told c.play_schedule.new.sink in
    let run : Run = core_run_from (state_of c.args.machine.now) c.args.schedule.now in
    writes_failed first now (played_text run) c.from_residual.result c.from_residual.ensures.0 (journal_fails first now run c.in_err-skipped.ensures.writes)

pub returns-in_err-write_report-clause-writes : goal.returns-in_err-write_report-clause-writes
returns-in_err-write_report-clause-writes g c =
    let first = g.S.Sink.told c.args.sink.now in
    let mid = g.S.Sink.told c.play_schedule.new.sink in
    let now = g.S.Sink.told c.write_report.new.sink in
    let run : Run = core_run_from (state_of c.args.machine.now) c.args.schedule.now in
    let ran = c.in_ok-skipped.ensures in
    writes_failed first now (played_text run) c.from_residual-in_err-write_report.result c.from_residual-in_err-write_report.ensures.0
    (report_fails (state_of c.play_schedule.new.objects) run c.in_ok-skipped.skipped ran.state ran.skipped first mid now ran.writes c.in_err-write_report.ensures.writes)

pub returns-clause-writes : goal.returns-clause-writes
returns-clause-writes g c =
    let first = g.S.Sink.told c.args.sink.now in
    let mid = g.S.Sink.told c.play_schedule.new.sink in
    let then = g.S.Sink.told c.write_report.new.sink in
    let now = g.S.Sink.told c.write_end.new.sink in
    let run : Run = core_run_from (state_of c.args.machine.now) c.args.schedule.now in
    let ran = c.in_ok-skipped.ensures in
    end_written (state_of c.play_schedule.new.objects) run c.in_ok-skipped.skipped ran.state ran.skipped first mid then ran.writes now c.write_end.result c.in_ok-write_report.ensures.writes c.write_end.ensures.writes
