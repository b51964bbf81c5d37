-- How the objects of an actor come into its hand, and go back. A pass is k before and l after.
use Rattle.std.specs.Prelude.{◌≡◌, ◌≢◌, ◌⊎◌, ℕ, List, [], ◌∷◌, true, Some, map, take, slice_get}
use Rattle.dc_base.specs.declared.numbers.BlockNo.{BlockNo}
use Rattle.dc_base.specs.Changes.{a_core, a_block, core, block}
use Rattle.dc_base.specs.Outcomes.{share_blocks}
use Rattle.dc_base.specs.Outcomes.{has as in_share}
use Rattle.dc_base.specs.States.{State, Core, Block}
use Rattle.dc_stage.specs.History.{own}
use Rattle.dc_stage.specs.Passes.{IsAlone}
use Rattle.dc_hands.specs.declared.hands.CoreHand.{CoreHand}
use Rattle.dc_hands.specs.declared.takes.Busy.{Busy}
use Rattle.dc_hands.specs.Machines.{Staged, Passing, state_after, number_of, IsLawfulHere}
use Rattle.dc_hands.specs.Holding.{GoesOn, Has}
use Rattle.dc_hands.specs.Hands.{HoldsJust}
use Rattle.dc_hands.specs.Rows.{Rowed, in_row, no_row}

-- the pass goes on with no entry of its own and no refused take
pub record GoesQuietly {D : Type 0} (k l : Passing D) : Type 0 where
  pub on : GoesOn k l
  pub mine : own k.actor l.seen ≡ own k.actor k.seen
  pub refused : l.refused ≡ k.refused

-- the numbers of the blocks of a row
abbrev pub row_blocks : Rowed → List ℕ
row_blocks r = map (λ (n : BlockNo). n.0) r.numbers

-- block b is in the share of core c
abbrev pub IsInShare : State → ℕ → ℕ → Type 0
IsInShare s c b = (k : Core) × (slice_get s.cores c ≡ Some k) × (in_share k.share b ≡ true)

module _ {D : Type 0} (st : Staged D) where
  -- The pass is the core's, and holds the core and the blocks of its row and no others, which stand in the hand as in the machine after all that the pass has
  -- seen.
  pub record HoldsRow (k : Passing D) (h : CoreHand D) : Type 0 where
    pub actor : k.actor ≡ h.number.0
    pub lawful : IsLawfulHere st k.seen
    pub core : Has st k (a_core h.number.0) (core h.core)
    pub blocks : (b : ℕ) (x : Block) → in_row h.row b ≡ Some x → Has st k (a_block b) (block x)
    pub holds : HoldsJust st k (a_core h.number.0 ∷ map a_block (row_blocks h.row))

  -- and the row has the first i blocks of the core's share
  pub record HoldsFirst (k : Passing D) (h : CoreHand D) (i : ℕ) : Type 0 where
    pub row : HoldsRow k h
    pub taken : row_blocks h.row ≡ take i (share_blocks h.core.share)

  -- Another actor had an object of core c: the core, or a block of its share in the state after all that the pass then has seen. It is not so where the pass
  -- is alone.
  pub record MissesOne (k l : Passing D) (c : ℕ) (b : Busy) : Type 0 where
    pub on : GoesOn k l
    pub mine : own k.actor l.seen ≡ own k.actor k.seen
    pub refused : l.refused ≡ (b.object, b.by) ∷ k.refused
    pub other : b.by ≢ k.actor
    pub object : (b.object ≡ number_of st (a_core c)) ⊎ ((n : ℕ) × (b.object ≡ number_of st (a_block n)) × IsInShare (state_after st l.seen) c n)
    pub alone : ¬ (IsAlone k)

  -- and all that was taken went back
  pub record FailsToGather (k l : Passing D) (c : ℕ) (r : Rowed) (b : Busy) : Type 0 where
    pub missed : MissesOne k l c b
    pub holds : l.holds ≡ []
    pub row : r ≡ no_row
