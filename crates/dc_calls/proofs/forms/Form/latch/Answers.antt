use Rattle.std.proofs.Common.{ap, ◌∙◌}
use Rattle.dc_base.specs.Firing.{latch_in}
use Rattle.dc_calls.proofs.forms.Form.latch.Goals as goal

pub returns-clause-block : goal.returns-clause-block
returns-clause-block g c = c.latch.ensures.control _ ∙ ap (latch_in c.args.s.0 c.args.l) c.self.view_is
