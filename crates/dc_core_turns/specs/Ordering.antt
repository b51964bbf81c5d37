-- A core carries out the order in its mailbox. A pass is k before and l after.
use Rattle.std.specs.Prelude.{◌≡◌, ℕ, List, [], ◌∷◌, ◌++◌, true, false, Some, None, slice_get}
use Rattle.dc_base.specs.declared.actions.Action.TheVariants as action
use Rattle.dc_base.specs.declared.actions.Actor.TheVariants as actors
use Rattle.dc_base.specs.declared.entries.Entry.{Entry}
use Rattle.dc_base.specs.declared.numbers.CoreNo.{CoreNo}
use Rattle.dc_base.specs.Changes.{Name, Change, a_block, a_mailbox, apply, at}
use Rattle.dc_base.specs.Histories.{touched, next, Listed}
use Rattle.dc_base.specs.Outcomes.{has as in_share}
use Rattle.dc_base.specs.States.{State, Block, Mailbox}
use Rattle.dc_bodies.specs.Does.{Does}
use Rattle.dc_touch.specs.Within.{Within}
use Rattle.dc_stage.specs.Numbers.{has, without}
use Rattle.dc_hands.specs.declared.answers.Turned.{Turned}
use Rattle.dc_hands.specs.declared.answers.Turned.TheVariants as turned
use Rattle.dc_hands.specs.declared.hands.CoreHand.{CoreHand}
use Rattle.dc_hands.specs.Machines.{Staged, Passing, state_after, number_of, IsLawfulHere}
use Rattle.dc_hands.specs.Holding.{GoesOn}
use Rattle.dc_hands.specs.Answers.{Made}
use Rattle.dc_hands.specs.Hands.{HoldsJust, objects_of}
use Rattle.dc_hands.specs.Rows.{in_row}

-- The core and the blocks of its share stand in the hand as in this state.
pub record Shows {D : Type 0} (s : State) (h : CoreHand D) : Type 0 where
  pub core : slice_get s.cores h.number.0 ≡ Some h.core
  pub blocks : (b : ℕ) → in_share h.core.share b ≡ true → (x : Block) × (in_row h.row b ≡ Some x) × (slice_get s.blocks b ≡ Some x)
  pub others : (b : ℕ) → in_share h.core.share b ≡ false → in_row h.row b ≡ None

module _ {D : Type 0} (st : Staged D) where
  -- The pass is the core's, and holds these objects beside the core and the blocks of its share, which stand in the hand as in the machine after all that the
  -- pass has seen.
  pub record HoldsBeside (k : Passing D) (h : CoreHand D) (ns : List Name) : Type 0 where
    pub actor : k.actor ≡ h.number.0
    pub lawful : IsLawfulHere st k.seen
    pub shows : Shows (state_after st k.seen) h
    pub holds : HoldsJust st k (ns ++ objects_of h.number.0 h.core.share)

  -- and the core's mailbox stands so
  pub record HoldsPosted (k : Passing D) (h : CoreHand D) (m : Mailbox) : Type 0 where
    pub beside : HoldsBeside k h (a_mailbox h.number.0 ∷ [])
    pub mailbox : slice_get (state_after st k.seen).mailboxes h.number.0 ≡ Some m

  -- and a block that it may adopt, which stands so
  pub record HoldsOffered (k : Passing D) (h : CoreHand D) (m : Mailbox) (b : ℕ) (x : Block) : Type 0 where
    pub beside : HoldsBeside k h (a_block b ∷ a_mailbox h.number.0 ∷ [])
    pub mailbox : slice_get (state_after st k.seen).mailboxes h.number.0 ≡ Some m
    pub block : slice_get (state_after st k.seen).blocks b ≡ Some x

  -- Core c makes this entry by its order in the state after all that the pass has seen, and leaves its mailbox so. The pass holds all that the entry touches,
  -- the mailbox among it.
  pub record CarriesOut (k : Passing D) (c : CoreNo) (m : Mailbox) (e : Entry) : Type 0 where
    pub actor : k.actor ≡ c.0
    pub changes : List Change
    pub does : Does (state_after st k.seen) (actors.Core c) action.Order changes e
    pub held : (n : Name) → Listed n (touched (state_after st k.seen) e) → Within st.scene.settings n × (has (number_of st n) k.holds ≡ true)
    pub mine : Listed (a_mailbox c.0) (touched (state_after st k.seen) e)
    pub mailbox : slice_get (apply (state_after st k.seen) changes).mailboxes c.0 ≡ Some m

  -- The core's entry was made by its order, and its mailbox was put back. What the pass held stands as the entry makes it.
  pub record Acknowledges (k l : Passing D) (c : CoreNo) (e : Entry) (r : Turned) : Type 0 where
    pub on : GoesOn k l
    pub ticket : ℕ
    pub did : r ≡ turned.Did e (record { 0 = ticket })
    pub made : Made st k l 0 (actors.Core c) action.Order e ticket
    pub holds : l.holds ≡ without (number_of st (a_mailbox c.0)) k.holds
    pub kept : (n : Name) → Within st.scene.settings n → has (number_of st n) k.holds ≡ true →
        at (state_after st l.seen) n ≡ at (next (state_after st k.seen) e) n
