-- What a step of the report tells.
use Rattle.std.specs.Prelude.{◌≡◌, List, [], ◌∷◌, Option, Some, None}
use Rattle.dc_base.specs.declared.reports.ReportLine.{ReportLine}

-- the first of these lines, and the place from which the others come; or none, where there are none
abbrev pub Tells : {A : Type 0} → (A → List ReportLine) → List ReportLine → Option (ReportLine × A) → Type 0
Tells rest lines None = lines ≡ []
Tells rest lines (Some told) = lines ≡ told.0 ∷ rest told.1
