-- The blocks of a core's share, and what a sound machine says of each.
use Rattle.std.specs.Prelude.{◌≡◌, ℕ, ◌<◌, ◌+◌, ◌^◌, List, true, Option, Some, map}
use Rattle.dc_base.specs.declared.interrupts.Timer.{Timer}
use Rattle.dc_base.specs.Words.{Each}
use Rattle.dc_base.specs.States.{Core, Block, Member, time_at}
use Rattle.dc_base.specs.Turns.{Looked}
use Rattle.dc_base.specs.Outcomes.{has, share_blocks}
use Rattle.dc_base.specs.Placed.{IsOn}
use Rattle.dc_objects.specs.Blocks.{IsTimed, CanSlice}

-- a block of core c, whose clock stands so: it is there, within bounds, and its deadlines are near
pub record IsInHand (c clock : ℕ) (x : Block) : Type 0 where
  pub here : IsOn c x.whereabouts
  pub timed : IsTimed clock x
  pub bounds : CanSlice x
  pub near : Each x.control.parts.timers (λ i (t : Timer). t.deadline < time_at clock x.whereabouts + 2 ^ 32)

-- every block of the share is there
abbrev pub AreInHand : ℕ → Core → (ℕ → Option Block) → Type 0
AreInHand c k seen = (b : ℕ) → has k.share b ≡ true → (x : Block) × (seen b ≡ Some x) × IsInHand c k.clock x

-- the blocks of a share, looked at
abbrev pub looked_in : (ℕ → Option Block) → List Member → List Looked
looked_in seen share = map (λ b. record { number = b; found = seen b }) (share_blocks share)
