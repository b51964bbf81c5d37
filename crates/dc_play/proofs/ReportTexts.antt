-- The text of the first lines of a report.
use Rattle.std.proofs.Common.{◌≡◌, ℕ, List, [], ◌∷◌, ◌++◌, refl, sym, ap, ◌∙◌, append_assoc}
use Rattle.dc_base.specs.declared.reports.ReportLine.{ReportLine}
use Rattle.dc_base.specs.TextWords.{ended}
use Rattle.dc_base.specs.ReportText.{report_line_text}
use Rattle.dc_play.specs.ReportLines.{lines_text}

pub lines_text-append : (xs ys : List ReportLine) → lines_text (xs ++ ys) ≡ lines_text xs ++ lines_text ys
lines_text-append [] ys = refl
lines_text-append (x ∷ xs) ys = ap (λ (t : List ℕ). ended (report_line_text x) ++ t) (lines_text-append xs ys) ∙ sym (append_assoc (ended (report_line_text x)) (lines_text xs) (lines_text ys))
