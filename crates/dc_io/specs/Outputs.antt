-- A writer, and bytes that it is still to take.
use Rattle.std.specs.Prelude.{ℕ, List, [], ◌∷◌, ◌++◌, Bool, Option, nat_eq}
use Rattle.std.specs.List.{ends_with}
use Rattle.std.specs.Option.{option_map}

-- the writer, the bytes held back, how many writes failed, and whether whole lines are written out at once
pub record Output (W : Type 0) : Type 0 where
  pub out : W
  pub unwritten : List ℕ
  pub faults : ℕ
  pub lines_at_once : Bool

-- what the writer has taken, followed by the bytes held back
abbrev pub with_unwritten : Option (List ℕ) → List ℕ → Option (List ℕ)
with_unwritten contents unwritten = option_map (λ bytes. bytes ++ unwritten) contents

-- what an output tells
abbrev pub told_by : {W : Type 0} → (W → Option (List ℕ)) → Output W → Option (List ℕ)
told_by contents output = with_unwritten (contents output.out) output.unwritten

-- the bytes end a line
abbrev pub ends_line : List ℕ → Bool
ends_line bytes = ends_with nat_eq bytes (10 ∷ [])
