-- The lines of a report, with their newlines.
use Rattle.std.specs.Prelude.{ℕ, List, flat_map}
use Rattle.dc_base.specs.declared.reports.ReportLine.{ReportLine}
use Rattle.dc_base.specs.TextWords.{ended}
use Rattle.dc_base.specs.ReportText.{report_line_text}

abbrev pub lines_text : List ReportLine → List ℕ
lines_text lines = flat_map (λ line. ended (report_line_text line)) lines
