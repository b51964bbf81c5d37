use Rattle.std.proofs.Common.{ap, sym, ◌∙◌}
use Rattle.dc_base.specs.Firing.{wake, wake_if}
use Rattle.dc_calls.proofs.forms.Form.wake_if.Goals as goal

pub returns-in-Some : goal.returns-in-Some
returns-in-Some g c = c.wake.ensures.control _ ∙ (ap (wake c.in-Some.w) c.self.view_is ∙ ap (λ o. wake_if o c.args.self.now) (sym c.in-Some.is))
