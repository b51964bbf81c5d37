-- Which capabilities descend from which, as a relation: nothing is counted.
use Rattle.std.specs.Prelude.{◌≡◌, ◌↔◌, ℕ, List, Some, IsTrue}
use Rattle.dc_base.specs.Capabilities.{Seat, parent_at, reaches}

-- a slot descends from its parent, and from what its parent descends from
pub data Descends (caps : List Seat) : ℕ → ℕ → Type 0 where
  child : (x s : ℕ) → parent_at caps x ≡ Some s → Descends caps x s
  further : (x p s : ℕ) → parent_at caps x ≡ Some p → Descends caps p s → Descends caps x s

-- counted steps lead from this seat to just the slots from which its slot descends
abbrev pub ReachesDescent : List Seat → Seat → Type 0
ReachesDescent caps h = (s : ℕ) → IsTrue (reaches caps h s) ↔ Descends caps h.slot s
