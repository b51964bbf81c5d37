use Rattle.std.proofs.Common.{◌<◌, ◌^◌, sym, ap, ◌∙◌, subst}
use Rattle.dc_base.specs.declared.kernels.Version.TheVariants.{Edf}
use Rattle.dc_base.specs.ControlBlocks.{ControlBlock}
use Rattle.dc_base.specs.Slices.{due_after}
use Rattle.dc_base.specs.Words.{Each}
use Rattle.dc_calls.proofs.forms.Form.grow_due.Goals as goal

pub add_period-requires-clause-within : goal.add_period-requires-clause-within
add_period-requires-clause-within g c = subst (λ (x : ControlBlock). Each x.dues (λ d due. due < 2 ^ 63)) (sym c.self.view_is) c.requires.dues

pub returns-in-Edf : goal.returns-in-Edf
returns-in-Edf g c =
    c.add_period.ensures.control _
    ∙ (ap (due_after Edf c.args.d.0) c.self.view_is
    ∙ ap (λ v. due_after v c.args.d.0 c.args.self.now) (sym c.in-Edf.is ∙ c.version.ensures))
