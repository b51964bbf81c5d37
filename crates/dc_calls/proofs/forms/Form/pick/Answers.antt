use Rattle.std.proofs.Common.{ap, ◌∙◌}
use Rattle.dc_base.specs.ControlBlocks.{ControlBlock}
use Rattle.dc_base.specs.Policies.{pick}
use Rattle.dc_calls.proofs.forms.Form.pick.Goals as goal

pub returns : goal.returns
returns g c = c.pick.ensures ∙ ap (λ (x : ControlBlock). pick g.R.ReadyList.policy x.dues x.ready) c.self.view_is
