use Rattle.std.proofs.Common.{sym, ap, ◌∙◌, slice_get}
use Rattle.dc_base.specs.ControlBlocks.{ControlBlock}
use Rattle.dc_kcb.specs.Readings.{disp_at}
use Rattle.dc_calls.specs.declared.forms.Form.TheInside.{Inside}
use Rattle.dc_calls.proofs.forms.Form.disp.Goals as goal

pub returns : goal.returns
returns g c =
    let inside = ap (λ (i : Inside _ _). slice_get i.agenda.disps c.args.d.0) c.self-inside.view_is in
    let fields = sym (c.dispatchers_are_read.ensures _ c.self.inside.agenda c.args.d.0) in
    let block = ap (λ (x : ControlBlock). disp_at x c.args.d.0) c.self.view_is in
    c.disp_in.ensures ∙ (inside ∙ (fields ∙ block))
