use Rattle.dc_report.proofs.PlaceLaws.{whole}
use Rattle.dc_report.proofs.cursor.Report.start.Goals as goal

pub returns : goal.returns
returns c = λ s. whole s
