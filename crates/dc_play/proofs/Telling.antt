-- A report is written line by line.
use Rattle.std.proofs.Common.{◌≡◌, ◌∙◌, ℕ, List, [], ◌∷◌, ◌++◌, Option, sym, ap, subst, append_assoc}
use Rattle.std.proofs.lemmas.List.{append-nil}
use Rattle.dc_base.specs.declared.reports.ReportLine.{ReportLine}
use Rattle.dc_base.specs.TextWords.{ended}
use Rattle.dc_base.specs.ReportText.{report_line_text}
use Rattle.dc_io.specs.Told.{Adds, AddsPrefix}
use Rattle.dc_play.specs.ReportLines.{lines_text}
use Rattle.dc_play.specs.Telling.{IsTelling}
use Rattle.dc_play.proofs.Adding.{adds_more, prefix_more}
use Rattle.dc_play.proofs.ReportTexts.{lines_text-append}

module _ (lines left : List ReportLine) (told now : Option (List ℕ)) (p : IsTelling lines left told now) where
  module _ (line : ReportLine) (more : List ReportLine) (next : left ≡ line ∷ more) (later : Option (List ℕ)) where
    pub tells_on : Adds now later (ended (report_line_text line)) → IsTelling lines more told later
    tells_on h =
        let text : lines_text (p.done ++ line ∷ []) ≡ lines_text p.done ++ ended (report_line_text line) =
        lines_text-append p.done (line ∷ []) ∙ ap (λ (t : List ℕ). lines_text p.done ++ t) (append-nil (ended (report_line_text line))) in
        record {
          done = p.done ++ line ∷ [];
          whole = p.whole ∙ ap (λ (ls : List ReportLine). p.done ++ ls) next ∙ sym (append_assoc p.done (line ∷ []) more);
          text = subst (λ (t : List ℕ). Adds told later t) (sym text) (adds_more told now later (lines_text p.done) (ended (report_line_text line)) p.text h);
        }

    pub telling_fails : AddsPrefix now later (ended (report_line_text line)) → AddsPrefix told later (lines_text lines)
    telling_fails h =
        let text : lines_text lines ≡ lines_text p.done ++ (ended (report_line_text line) ++ lines_text more) =
        ap lines_text (p.whole ∙ ap (λ (ls : List ReportLine). p.done ++ ls) next) ∙ lines_text-append p.done (line ∷ more) in
        subst (λ (t : List ℕ). AddsPrefix told later t) (sym text) (prefix_more told now later (lines_text p.done) (ended (report_line_text line)) (lines_text more) p.text h)
