-- Where a script stands.
use Rattle.std.specs.Prelude.{◌≡◌, ℕ, ◌+◌, ◌≤◌, nat_le, nat_lt, List, [], ◌∷◌, not, ◌&&◌, Option, Some, None, if◌then◌else◌, length}
use Rattle.dc_base.specs.declared.commands.ScriptLine.{ScriptLine}
use Rattle.dc_base.specs.Script.{is_command, next_raise}

-- the place of the first raise at q or later, where the first line of the list is line n; or the number of lines
abbrev pub raise_place_from : ℕ → ℕ → List ScriptLine → ℕ
raise_place_from q n [] = n
raise_place_from q n (l ∷ ls) = if nat_le q n && not (is_command l) then n else raise_place_from q (n + 1) ls

-- the place of the first raise at q or later, or the number of lines
abbrev pub raise_place : List ScriptLine → ℕ → ℕ
raise_place lines q = raise_place_from q 0 lines

-- the place, where there is a line there
abbrev pub within : List ScriptLine → ℕ → Option ℕ
within lines q = if nat_lt q (length lines) then Some q else None

-- the next raise after so many is here, or none is left
abbrev pub IsNextRaise : List ScriptLine → ℕ → ℕ → Type 0
IsNextRaise lines raises ahead = next_raise lines raises ≡ within lines ahead

-- a script of at most 4,096 lines, and the place of its next raise
pub record IsScript (lines : List ScriptLine) (at raises ahead : ℕ) : Type 0 where
  pub most : length lines ≤ 4096
  pub place : at ≤ length lines
  pub raise : ahead ≤ length lines
  pub next : IsNextRaise lines raises ahead
  pub count : raises ≤ ahead
