-- Blocks in a row, each with its number.
use Rattle.std.specs.Prelude.{◌≡◌, ℕ, suc, zero, ◌==◌, List, [], ◌∷◌, ◌++◌, Option, if◌then◌else◌, length}
use Rattle.dc_base.specs.declared.numbers.BlockNo.{BlockNo}
use Rattle.dc_base.specs.States.{Block}
use Rattle.dc_bodies.specs.Handing.{seen_at}

-- what contracts see of a row: the numbers, and the blocks in the same order
pub record Rowed : Type 0 where
  pub numbers : List BlockNo
  pub blocks : List Block

-- the place of a number in a list, or its length where it is not there
abbrev pub place_in : List BlockNo → ℕ → ℕ
place_in [] b = zero
place_in (n ∷ ns) b = if n.0 == b then zero else suc (place_in ns b)

-- the block of this number, if it is in the row
abbrev pub in_row : Rowed → ℕ → Option Block
in_row r b = seen_at (place_in r.numbers) r.blocks b

-- the row with this block last
abbrev pub with_last : Rowed → BlockNo → Block → Rowed
with_last r b x = record { numbers = r.numbers ++ b ∷ []; blocks = r.blocks ++ x ∷ [] }

-- the row without blocks
abbrev pub no_row : Rowed
no_row = record { numbers = []; blocks = [] }

-- no number stands twice
abbrev pub AreOnce : List BlockNo → Type 0
AreOnce [] = Unit {0}
AreOnce (n ∷ ns) = (place_in ns n.0 ≡ length ns) × AreOnce ns

-- each block has its number, and no number stands twice
pub record IsRow (r : Rowed) : Type 0 where
  pub each : length r.numbers ≡ length r.blocks
  pub once : AreOnce r.numbers
