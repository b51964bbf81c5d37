-- Blocks at rest.
use Rattle.std.specs.Prelude.{ℕ, ⊤}
use Rattle.dc_base.specs.States.{Block, Whereabouts, rest, on}
use Rattle.dc_objects.specs.Blocks.{IsTimed}

abbrev pub IsRestAt : Whereabouts → Type 0
IsRestAt (rest kept) = ⊤
IsRestAt (on c offset v) = ⊥

-- the block is at rest
abbrev pub IsResting : Block → Type 0
IsResting x = IsRestAt x.whereabouts

abbrev pub kept_at : Whereabouts → ℕ
kept_at (rest kept) = kept
kept_at (on c offset v) = 0

-- the kept time of a block at rest
abbrev pub kept_in : Block → ℕ
kept_in x = kept_at x.whereabouts

abbrev pub IsTimedAt : ℕ → Block → Whereabouts → Type 0
IsTimedAt clock x (rest kept) = ⊤
IsTimedAt clock x (on c offset v) = IsTimed clock x

-- the block is at rest, or the clock of its core and its time are within bounds
abbrev pub IsTimedOrResting : ℕ → Block → Type 0
IsTimedOrResting clock x = IsTimedAt clock x x.whereabouts
