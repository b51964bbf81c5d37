-- A core's hand, with more objects beside it.
use Rattle.std.specs.Prelude.{◌≡◌, ℕ, List, ◌++◌, true, false, Some, None, slice_get}
use Rattle.dc_base.specs.Changes.{Name}
use Rattle.dc_base.specs.Outcomes.{has as in_share}
use Rattle.dc_base.specs.States.{State, Block}
use Rattle.dc_hands.specs.declared.hands.CoreHand.{CoreHand}
use Rattle.dc_hands.specs.Hands.{HoldsJust, objects_of}
use Rattle.dc_hands.specs.Machines.{Staged, Passing, state_after, IsLawfulHere}
use Rattle.dc_hands.specs.Rows.{in_row}

-- The core and the blocks of its share stand in the hand as in this state, and the row has no other block.
pub record StandsIn {D : Type 0} (h : CoreHand D) (s : State) : Type 0 where
  pub core : slice_get s.cores h.number.0 ≡ Some h.core
  pub blocks : (b : ℕ) → in_share h.core.share b ≡ true → (x : Block) × (in_row h.row b ≡ Some x) × (slice_get s.blocks b ≡ Some x)
  pub others : (b : ℕ) → in_share h.core.share b ≡ false → in_row h.row b ≡ None

-- The pass is the core's, and holds these objects, the core and the blocks of its share, and no others. The hand is as in the machine after all that the pass
-- has seen.
pub record HoldsBeside {D : Type 0} (st : Staged D) (k : Passing D) (h : CoreHand D) (ns : List Name) : Type 0 where
  pub actor : k.actor ≡ h.number.0
  pub lawful : IsLawfulHere st k.seen
  pub stands : StandsIn h (state_after st k.seen)
  pub holds : HoldsJust st k (ns ++ objects_of h.number.0 h.core.share)
