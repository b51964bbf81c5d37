-- A block that a share has is one of its members.
use Rattle.std.proofs.Common.{◌≡◌, ℕ, suc, ◌==◌, ◌||◌, Bool, true, false, List, [], ◌∷◌, Some, refl, eqb-true}
use Rattle.std.specs.Prelude.{slice_get}
use Rattle.dc_base.specs.States.{Member}
use Rattle.dc_base.specs.Outcomes.{has}

-- the member at some place is of this block
pub record IsMember (share : List Member) (b : ℕ) : Type 0 where
  pub place : ℕ
  pub member : Member
  pub there : slice_get share place ≡ Some member
  pub block : member.block ≡ b

member_by : (m : Member) (share : List Member) (b : ℕ) (f : Bool) → (m.block == b) ≡ f → (has share b ≡ true → IsMember share b) →
    (f || has share b) ≡ true → IsMember (m ∷ share) b
member_by m share b true e more h = record { place = 0; member = m; there = refl; block = eqb-true m.block b e }
member_by m share b false e more h =
    let x = more h in
    record { place = suc x.place; member = x.member; there = x.there; block = x.block }

pub member_of : (share : List Member) (b : ℕ) → has share b ≡ true → IsMember share b
member_of [] b h = absurd cc
member_of (m ∷ share) b h = member_by m share b (m.block == b) refl (member_of share b) h
