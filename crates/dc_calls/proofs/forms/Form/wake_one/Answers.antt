use Rattle.std.proofs.Common.{ap, ◌∙◌}
use Rattle.dc_base.specs.Wakes.{ready_again}
use Rattle.dc_calls.proofs.forms.Form.wake_one.Goals as goal

pub returns : goal.returns
returns g c = c.wake_one.ensures.control _ ∙ ap (ready_again c.args.d.0) c.self.view_is
