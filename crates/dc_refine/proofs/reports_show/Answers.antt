use Rattle.dc_refine.proofs.Reports.{report_shows}
use Rattle.dc_refine.proofs.ReportedBlocks.{blocks-reported}
use Rattle.dc_refine.proofs.reports_show.Goals as goal

pub returns-clause-shown : goal.returns-clause-shown
returns-clause-shown c = report_shows

pub returns-clause-blocks : goal.returns-clause-blocks
returns-clause-blocks c = blocks-reported
