use Rattle.std.proofs.Common.{ap, ◌∙◌}
use Rattle.dc_base.specs.Slices.{ready_last}
use Rattle.dc_calls.proofs.SliceParts.{due_last}
use Rattle.dc_calls.proofs.forms.Form.stay_ready.Goals as goal

pub returns : goal.returns
returns g c = c.ready_last.ensures.control _ ∙ (ap (ready_last c.args.d.0) (c.self.view_is ∙ c.grow_due.ensures) ∙ due_last g.R.ReadyList.policy c.args.d.0 c.args.self.now)
