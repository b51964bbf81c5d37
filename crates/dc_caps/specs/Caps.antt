-- What a table of capabilities is seen as.
use Rattle.std.specs.Prelude.{◌≡◌, ℕ, ◌+◌, ◌*◌, ◌<◌, ◌≤◌, List, true, Some, IfSome, slice_get}
use Rattle.dc_base.specs.declared.capabilities.Cap.{Cap}
use Rattle.dc_base.specs.declared.capabilities.CapKind.{CapKind}
use Rattle.dc_base.specs.declared.capabilities.CapKind.TheVariants.{Ram, Frame}
use Rattle.dc_base.specs.Words.{Each}
use Rattle.dc_base.specs.Capabilities.{Seat, is_used}
use Rattle.dc_base.specs.KeptByBlocks.{Falls}

-- the capabilities of a block, and how many dispatchers it has
pub record Caps : Type 0 where
  pub set : List Seat
  pub disps : ℕ

-- memory is at least one word, and lies in the 4,096 words
abbrev pub IsRange : CapKind → Type 0
IsRange (Ram first length) = (0 < length) × (first + length ≤ 4096)
IsRange (Frame first length) = (0 < length) × (first + length ≤ 4096)
IsRange kind = Unit {0}

pub record IsCap (cap : Cap) : Type 0 where
  pub rights : cap.rights ≤ 7
  pub range : IsRange cap.kind

-- the slots ascend and each belongs to a dispatcher, each parent is used, and going from parent to parent ends at a root
pub record IsTable (t : Caps) : Type 0 where
  pub some : 0 < t.disps
  pub disps : t.disps ≤ 16
  pub ascending : (i j : ℕ) (h k : Seat) → i < j → slice_get t.set i ≡ Some h → slice_get t.set j ≡ Some k → h.slot < k.slot
  pub slots : Each t.set (λ i (h : Seat). h.slot < 16 * t.disps)
  pub caps : Each t.set (λ i (h : Seat). IsCap h.cap)
  pub parents : Each t.set (λ i (h : Seat). IfSome h.parent (λ p. is_used t.set p ≡ true))
  pub roots : (rank : ℕ → ℕ) × Falls rank t.set
