use Rattle.std.proofs.Common.{◌<◌, false, ap, sym, ◌∙◌, subst, length, map}
use Rattle.std.specs.Prelude.{slice_get}
use Rattle.std.specs.Option.{option_map_or}
use Rattle.dc_base.specs.Firing.{waits_so}
use Rattle.dc_kcb.specs.Controls.{Agenda, state_of}
use Rattle.dc_calls.proofs.AgendaWrites.{state-there}
use Rattle.dc_calls.proofs.agendas.Agenda.waits.Goals as goal

pub returns : goal.returns
returns g c =
    let ds = c.self.inside.disps.items in
    let lt : c.args.d.0 < length ds = subst (λ (a : Agenda). c.args.d.0 < length a.disps) (sym c.self.view_is) c.requires in
    c.is_waiting.ensures
    ∙ ap (λ o. option_map_or (waits_so c.args.w) o false) (sym (state-there ds c.args.d.0 c.deref.result.now c.deref.ensures.0 lt))
    ∙ ap (λ (a : Agenda). option_map_or (waits_so c.args.w) (slice_get (map state_of a.disps) c.args.d.0) false) c.self.view_is
