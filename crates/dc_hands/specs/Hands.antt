-- The objects that an actor holds from turn to turn.
use Rattle.std.specs.Prelude.{◌≡◌, ℕ, ◌≤◌, List, [], ◌∷◌, true, false, Some, None, map, slice_get}
use Rattle.dc_base.specs.declared.dispatchers.DispState.{DispState}
use Rattle.dc_base.specs.Words.{Each}
use Rattle.dc_base.specs.Named.{waits_on_channel}
use Rattle.dc_base.specs.Changes.{Name, a_core, a_block, the_script}
use Rattle.dc_base.specs.Outcomes.{share_blocks}
use Rattle.dc_base.specs.Outcomes.{has as in_share}
use Rattle.dc_base.specs.States.{Member, Block}
use Rattle.dc_stage.specs.Numbers.{has}
use Rattle.dc_hands.specs.declared.hands.CoreHand.{CoreHand}
use Rattle.dc_hands.specs.declared.hands.ScriptHand.{ScriptHand}
use Rattle.dc_hands.specs.Machines.{Staged, Passing, state_after, number_of, IsLawfulHere}
use Rattle.dc_hands.specs.Rows.{in_row}

-- the objects of a core with this share: itself and the blocks of the share
abbrev pub objects_of : ℕ → List Member → List Name
objects_of c share = a_core c ∷ map a_block (share_blocks share)

module _ {D : Type 0} (st : Staged D) where
  -- the pass holds these objects and no others
  abbrev pub HoldsJust : Passing D → List Name → Type 0
  HoldsJust k ns = (i : ℕ) → has i k.holds ≡ has i (map (number_of st) ns)

  -- The pass is the core's, and holds the core and the blocks of its share, which stand in the hand as in the machine after all that the pass has seen.
  pub record HoldsCore (k : Passing D) (h : CoreHand D) : Type 0 where
    pub actor : k.actor ≡ h.number.0
    pub lawful : IsLawfulHere st k.seen
    pub core : slice_get (state_after st k.seen).cores h.number.0 ≡ Some h.core
    pub blocks : (b : ℕ) → in_share h.core.share b ≡ true →
        (x : Block) × (in_row h.row b ≡ Some x) × (slice_get (state_after st k.seen).blocks b ≡ Some x)
    pub others : (b : ℕ) → in_share h.core.share b ≡ false → in_row h.row b ≡ None
    pub holds : HoldsJust k (objects_of h.number.0 h.core.share)

  -- The pass is the script's, and holds the script alone, which stands in the hand as in the machine after all that the pass has seen. So many polls were
  -- made of the command at its place.
  pub record HoldsScript (k : Passing D) (h : ScriptHand) : Type 0 where
    pub actor : k.actor ≡ st.scene.settings.cores
    pub lawful : IsLawfulHere st k.seen
    pub script : (state_after st k.seen).script ≡ h.script
    pub polls : h.polls ≤ 1000000000
    pub holds : HoldsJust k (the_script ∷ [])

-- so it is for each dispatcher that waits on a channel, of each block at a place of the share, as the hand shows them
abbrev pub EachWaiter : {D : Type 0} → CoreHand D → (ℕ → ℕ → Type 0) → Type 0
EachWaiter h P = (i b : ℕ) → slice_get (share_blocks h.core.share) i ≡ Some b → (x : Block) → in_row h.row b ≡ Some x →
    Each x.control.states (λ d (state : DispState). waits_on_channel state ≡ true → P b d)
