-- A memory with changes on top.
use Rattle.std.specs.Prelude.{ℕ, ◌-◌, List, [], ◌∷◌, length, slice_set}

-- an address and its new word
abbrev pub Change : Type 0
Change = ℕ × ℕ

-- the memory after the changes, made in order
abbrev pub with_changes : List ℕ → List Change → List ℕ
with_changes memory [] = memory
with_changes memory (c ∷ cs) = with_changes (slice_set memory c.0 c.1) cs

-- a memory, and the changes on top of it
pub record Overlay : Type 0 where
  pub below : List ℕ
  pub changes : List Change

-- the memory as it is with its changes
abbrev pub memory_of : Overlay → List ℕ
memory_of o = with_changes o.below o.changes

-- how many more changes fit on top
abbrev pub room_of : Overlay → ℕ
room_of o = 64 - length o.changes
