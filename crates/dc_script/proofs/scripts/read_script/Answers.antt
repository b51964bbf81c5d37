use Rattle.std.proofs.lemmas.Result.{IfOk-weaker}
use Rattle.dc_base.specs.ScriptText.{script_of}
use Rattle.dc_script.proofs.Validity.{script_valid}
use Rattle.dc_script.proofs.scripts.read_script.Goals as goal

pub returns-clause-valid : goal.returns-clause-valid
unfolding script_of
returns-clause-valid c = IfOk-weaker c.read_text.result _ _ (script_valid c.args.bounds c.args.bytes.now) c.read_text.ensures.lines
