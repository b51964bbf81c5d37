-- The two passes of the assembler.
use Rattle.std.specs.Prelude.{◌≡◌, ℕ, ◌+◌, ◌≤◌, List, ◌∷◌, ◌++◌, map, length, Option, Some, None, Result, Ok, Err}
use Rattle.std.specs.Borrow.{Bor}
use Rattle.dc_base.specs.declared.faults.AsmFault.{AsmFault}
use Rattle.dc_base.specs.declared.faults.AsmFault.TheVariants.{Bad, Memory}
use Rattle.dc_base.specs.ProgramText.{Label, Statement, statement, code_words, place_of, labels_from, words_from}
use Rattle.dc_text.specs.Rest.{lines_left, joined}

-- the statements of the rest of a text
abbrev pub statements_left : Option (Bor (List ℕ)) → List Statement
statements_left rest = map (λ line. statement (code_words line)) (lines_left rest)

-- the first place that is there
abbrev pub or_else : Option ℕ → Option ℕ → Option ℕ
or_else None p = p
or_else (Some p) q = Some p

-- with a statement noted, the labels of the further statements give each name the same place as before
pub record NotesLabel (old new : List Label) (place next : ℕ) (s : Statement) : Type 0 where
  pub same : (q : List ℕ) (more : List Statement) →
      or_else (place_of new q) (place_of (labels_from next more) q) ≡ or_else (place_of old q) (place_of (labels_from place (s ∷ more)) q)
  pub near : next ≤ place + 1

-- with a statement read, the words of the further statements go on as before, or the fault is the statement's
abbrev pub AddsWord : Result (Unit {0}) AsmFault → List Label → ℕ → (old new : List ℕ) → (above beyond : List (List ℕ)) → Statement → Type 0
AddsWord (Ok u) labels line old new above beyond s =
    (more : List Statement) →
    joined old (words_from labels line (length old) above (s ∷ more)) ≡ joined new (words_from labels (line + 1) (length new) beyond more)
AddsWord (Err Memory) labels line old new above beyond s = Unit {0}
AddsWord (Err (Bad n kind)) labels line old new above beyond s =
    (more : List Statement) → joined old (words_from labels line (length old) above (s ∷ more)) ≡ Err (Bad n kind)
