-- How far a report was written.
use Rattle.std.specs.Prelude.{◌≡◌, ℕ, List, ◌++◌, Option}
use Rattle.dc_base.specs.declared.reports.ReportLine.{ReportLine}
use Rattle.dc_io.specs.Told.{Adds}
use Rattle.dc_play.specs.ReportLines.{lines_text}

-- the lines before these last ones are written
pub record IsTelling (lines left : List ReportLine) (told now : Option (List ℕ)) : Type 0 where
  pub done : List ReportLine
  pub whole : lines ≡ done ++ left
  pub text : Adds told now (lines_text done)
