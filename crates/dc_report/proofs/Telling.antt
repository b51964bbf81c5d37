-- A step that tells other lines tells these, where they are the same.
use Rattle.std.proofs.Common.{◌≡◌, List, ◌∷◌, sym, ap, ◌∙◌, subst}
use Rattle.std.specs.Prelude.{Option}
use Rattle.dc_base.specs.declared.reports.ReportLine.{ReportLine}
use Rattle.dc_report.specs.Told.{Tells}

pub instead : {A : Type 0} (R : A → List ReportLine) (lines others : List ReportLine) (o : Option (ReportLine × A)) → lines ≡ others → Tells R others o → Tells R lines o
instead R lines others o e t = subst (λ ls. Tells R ls o) (sym e) t

-- a line that is the first of these lines
pub told_as : (lines others : List ReportLine) (line told : ReportLine) → lines ≡ line ∷ others → told ≡ line → lines ≡ told ∷ others
told_as lines others line told e is = e ∙ ap (λ l. l ∷ others) (sym is)
