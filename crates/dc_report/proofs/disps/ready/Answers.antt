use Rattle.std.proofs.Common.{ap, sym, ◌∙◌, ◌∷◌}
use Rattle.dc_base.specs.declared.reports.ReportLine.TheVariants as line
use Rattle.dc_base.specs.Report.{block_no}
use Rattle.dc_report.proofs.PartLaws.{ready_told}
use Rattle.dc_report.specs.Remaining.{part_lines}
use Rattle.dc_report.specs.declared.places.Part.TheVariants.{Cap}
use Rattle.dc_report.proofs.disps.ready.Goals as goal

pub returns : goal.returns
returns g c = ready_told c.args.b c.args.block.now ∙ ap (λ ds. line.Ready (block_no c.args.b) (record { items = ds }) ∷ part_lines c.args.b c.args.block.now (Cap 0)) (sym c.ready_list.ensures)
