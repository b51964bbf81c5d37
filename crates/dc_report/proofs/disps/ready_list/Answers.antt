use Rattle.std.proofs.Common.{ℕ, ap, ◌∙◌, map}
use Rattle.std.proofs.lemmas.List.{take_all}
use Rattle.dc_base.specs.declared.numbers.DispNo.{DispNo}
use Rattle.dc_report.proofs.Readings.{first_parts}
use Rattle.dc_report.proofs.disps.ready_list.Goals as goal

pub returns : goal.returns
returns g c =
    let items = c.as_slice-entry-items.result.now in
    c.loop-entry.invariant
    ∙ (ap (λ es. map (λ (e : DispNo × ℕ). e.0) es) (take_all c.loop-entry.entry-index items c.loop-entry-test.false ∙ c.as_slice-entry-items.ensures.value)
    ∙ (first_parts c.ready-entries.result.items
    ∙ ap (λ ds. map (λ d. record { 0 = d }) ds) c.ready-entries.ensures.order))
