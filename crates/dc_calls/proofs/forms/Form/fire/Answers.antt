use Rattle.std.proofs.Common.{ap, ◌∙◌}
use Rattle.dc_base.specs.Firing.{fire_all}
use Rattle.dc_calls.proofs.forms.Form.fire.Goals as goal

pub returns : goal.returns
returns g c = c.fire.ensures.control _ ∙ ap (fire_all c.args.time) c.self.view_is
