use Rattle.std.proofs.Common.{ap, ◌∙◌}
use Rattle.dc_base.specs.Slices.{without_ready}
use Rattle.dc_calls.proofs.forms.Form.take_out.Goals as goal

pub returns : goal.returns
returns g c = c.take_out.ensures.control _ ∙ ap (without_ready c.args.d.0) c.self.view_is
