-- What the labels of the code stand for.
use Rattle.std.specs.Prelude.{ℕ, List, map, min}
use Rattle.std.specs.Borrow.{Bor}
use Rattle.dc_base.specs.ProgramText.{Label}
use Rattle.dc_isa.specs.declared.labels.Labels.{Labels}

-- the labels by name
abbrev pub label_list : Labels → List Label
label_list labels = map (λ (e : Bor (List ℕ) × ℕ). (e.0.now, e.1)) labels.places.entries

-- the labels with places of at most 1,025
abbrev pub capped : List Label → List Label
capped labels = map (λ (l : Label). (l.0, min l.1 1025)) labels

-- the names of the labels
abbrev pub names : Labels → List (List ℕ)
names labels = map (λ (e : Bor (List ℕ) × ℕ). e.0.now) labels.places.entries
