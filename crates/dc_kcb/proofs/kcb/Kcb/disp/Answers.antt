use Rattle.std.proofs.Common.{sym, ap, ◌∙◌}
use Rattle.dc_kcb.specs.Wholes.{Resting, store_in, agenda_in}
use Rattle.dc_kcb.specs.Readings.{disp_at}
use Rattle.dc_kcb.proofs.kcb.Kcb.disp.Goals as goal

pub returns : goal.returns
returns c =
    let fields = sym (c.dispatchers_are_read.ensures (store_in c.self.inside.parts) (agenda_in c.self.inside.parts) c.args.d.0) in
    let block = ap (λ (r : Resting). disp_at r.control c.args.d.0) c.self.view_is in
    c.disp_in.ensures ∙ (fields ∙ block)
