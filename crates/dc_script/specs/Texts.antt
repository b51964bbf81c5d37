-- A text is read line by line.
use Rattle.std.specs.Prelude.{◌≡◌, ℕ, ◌==◌, Bool, false, ◌+◌, ◌-◌, List, [], ◌∷◌, length, if◌then◌else◌, Result, Ok, Err}
use Rattle.dc_base.specs.declared.commands.Bounds.{Bounds}
use Rattle.dc_base.specs.declared.faults.TextKind.{TextKind}
use Rattle.dc_base.specs.declared.faults.TextFault.{TextFault}
use Rattle.dc_base.specs.declared.faults.TextFault.TheVariants.{Memory}
use Rattle.dc_base.specs.States.{Settings}
use Rattle.dc_base.specs.TextWords.{first_words}
use Rattle.dc_base.specs.ScriptText.{counts, counted_from, lines_read}
use Rattle.dc_text.specs.Rest.{joined}

-- the first byte says that the line is a comment
abbrev pub is_comment : List ℕ → Bool
is_comment [] = false
is_comment (b ∷ line) = b == 35

-- the first words of a line that counts; none of another
abbrev pub counted_words : List ℕ → List (List ℕ)
counted_words line = if counts line then first_words line else []

-- what a text says that begins with these lines, the first of which has this number, behind what was found
abbrev pub said_from : {A : Type 0} → (List (List ℕ) → Result A TextKind) → (limit : ℕ) → (found : List A) → (number : ℕ) → List (List ℕ) →
    Result (List A) TextFault
said_from read limit found number lines = joined found (lines_read read (limit - length found) (counted_from number lines))

-- with a line read, the further lines say the same behind it as before, or the fault is the line's
abbrev pub AddsLine : {A : Type 0} → (List (List ℕ) → Result A TextKind) → (limit : ℕ) → (old new : List A) → (number : ℕ) → (line : List ℕ) →
    Result (Unit {0}) TextFault → Type 0
AddsLine read limit old new number line (Ok u) =
    (more : List (List ℕ)) → said_from read limit old number (line ∷ more) ≡ said_from read limit new (number + 1) more
AddsLine read limit old new number line (Err Memory) = Unit {0}
AddsLine read limit old new number line (Err fault) = (more : List (List ℕ)) → said_from read limit old number (line ∷ more) ≡ Err fault

-- the numbers of cores, blocks and lines that these settings have
pub record AreBounds (bounds : Bounds) (t : Settings) : Type 0 where
  pub cores : t.cores ≡ bounds.cores
  pub blocks : t.blocks ≡ bounds.blocks
  pub lines : t.lines ≡ bounds.lines
