use Rattle.std.proofs.Common.{◌<◌, ◌^◌, sym, ap, ◌∙◌, subst}
use Rattle.dc_base.specs.ControlBlocks.{ControlBlock}
use Rattle.dc_base.specs.Slices.{with_state, due_after}
use Rattle.dc_base.specs.Words.{Each}
use Rattle.dc_calls.proofs.AgendaWrites.{no_store}
use Rattle.dc_calls.proofs.forms.Form.stand.Goals as goal

pub grow_due-requires-clause-dues : goal.grow_due-requires-clause-dues
grow_due-requires-clause-dues g c = subst (λ dues. Each dues (λ d due. due < 2 ^ 63)) (sym (ap (λ (x : ControlBlock). x.dues) (c.set_state.ensures.control no_store) ∙ ap (λ (x : ControlBlock). x.dues) c.self.view_is)) c.requires.dues

pub returns : goal.returns
returns g c = c.grow_due.ensures ∙ ap (due_after g.R.ReadyList.policy c.args.d.0) (c.set_state.ensures.control _ ∙ ap (with_state c.args.d.0 c.args.state) c.self.view_is)
