use Rattle.std.proofs.lemmas.Result.{IfOk-weaker}
use Rattle.dc_base.specs.ScriptText.{schedule_of}
use Rattle.dc_script.proofs.Validity.{schedule_valid}
use Rattle.dc_script.proofs.schedules.read_schedule.Goals as goal

pub returns-clause-valid : goal.returns-clause-valid
unfolding schedule_of
returns-clause-valid c = IfOk-weaker c.read_text.result _ _ (schedule_valid c.args.bounds c.args.bytes.now) c.read_text.ensures.lines
