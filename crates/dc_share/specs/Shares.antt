-- What a share keeps, and what room in it is.
use Rattle.std.specs.Prelude.{◌≡◌, ℕ, ◌<◌, ◌≤◌, List, Bool, true, false}
use Rattle.dc_base.specs.States.{Member}
use Rattle.dc_base.specs.Outcomes.{has}
use Rattle.dc_base.specs.Placed.{count_in, homes_in, parked_in}
use Rattle.dc_share.specs.declared.share.Share.TheInside.{Inside}

-- each block once and below 16, at most one of them home, at most eight parked
pub record IsWithin (share : List Member) : Type 0 where
  pub once : (b : ℕ) → count_in share b ≤ 1
  pub home : homes_in share ≤ 1
  pub parked : parked_in share ≤ 8
  pub below : (b : ℕ) → has share b ≡ true → b < 16

abbrev pub IsShare : Inside → Type 0
IsShare s = IsWithin s.seats.items

-- room for one more block: no block is home, or fewer than eight are parked
abbrev pub HasRoom : Bool → List Member → Type 0
HasRoom false share = homes_in share ≡ 0
HasRoom true share = parked_in share < 8
