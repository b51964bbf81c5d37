-- Blocks by number, changed alike.
use Rattle.std.specs.Prelude.{◌≡◌, ℕ, ◌<◌, List, true, false, Option, Some, slice_get}
use Rattle.std.specs.Option.{option_map}
use Rattle.dc_base.specs.Outcomes.{has}
use Rattle.dc_base.specs.States.{Block, Member}
use Rattle.dc_objects.specs.Blocks.{IsTimed}

-- the blocks of a list by number, where they stand at these places
abbrev pub seen_at : (ℕ → ℕ) → List Block → ℕ → Option Block
seen_at at blocks b = slice_get blocks (at b)

-- no two blocks stand at one place of a list of n
abbrev pub AreApart : (ℕ → ℕ) → ℕ → Type 0
AreApart at n = (b c : ℕ) → at b < n → at c ≡ at b → c ≡ b

-- block b as f makes it, and each other as it was
pub record IsChangedAt (f : Block → Block) (b : ℕ) (before after : ℕ → Option Block) : Type 0 where
  pub here : after b ≡ option_map f (before b)
  pub others : (n : ℕ) → (n ≡ b → ⊥) → after n ≡ before n

-- each block of the share as f makes it, and each other as it was
pub record AreChanged (f : Block → Block) (share : List Member) (before after : ℕ → Option Block) : Type 0 where
  pub here : (b : ℕ) → has share b ≡ true → after b ≡ option_map f (before b)
  pub others : (b : ℕ) → has share b ≡ false → after b ≡ before b

-- each block of the share is there and on a core; the core's clock, which stands so, and the block's time are within bounds
abbrev pub AreTimed : ℕ → List Member → (ℕ → Option Block) → Type 0
AreTimed clock share seen = (b : ℕ) → has share b ≡ true → (x : Block) × (seen b ≡ Some x) × IsTimed clock x
