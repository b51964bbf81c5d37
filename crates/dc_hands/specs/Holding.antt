-- What a pass holds of a machine, and how it goes on. A pass is k before and l after.
use Rattle.std.specs.Prelude.{◌≡◌, ◌≢◌, ℕ, [], ◌∷◌, ◌++◌, true, Some, length}
use mathlib.Core.List.{IsPrefix}
use Rattle.dc_base.specs.declared.entries.Entry.{Entry}
use Rattle.dc_base.specs.Changes.{Name, Object, at}
use Rattle.dc_base.specs.Histories.{IsLawful, next}
use Rattle.dc_touch.specs.Within.{Within}
use Rattle.dc_stage.specs.Numbers.{has}
use Rattle.dc_stage.specs.History.{Log, own}
use Rattle.dc_stage.specs.Passes.{IsAlone, having_seen, having_taken, refused_by}
use Rattle.dc_hands.specs.declared.takes.Busy.{Busy}
use Rattle.dc_hands.specs.Machines.{Staged, Passing, state_after, number_of, IsLawfulHere}

-- what stays of a pass whatever it does, and what it had seen is the beginning of what it sees
pub record GoesOn {D : Type 0} (k l : Passing D) : Type 0 where
  pub table : l.table_id ≡ k.table_id
  pub scene : l.scene ≡ k.scene
  pub actor : l.actor ≡ k.actor
  pub first : l.first ≡ k.first
  pub made : l.made ≡ k.made
  pub joined : l.joined ≡ k.joined
  pub sees : IsPrefix k.seen l.seen

module _ {D : Type 0} (st : Staged D) where
  -- the pass holds the object of this name, which stands so after all that the pass has seen
  pub record Has (k : Passing D) (n : Name) (o : Object) : Type 0 where
    pub within : Within st.scene.settings n
    pub held : has (number_of st n) k.holds ≡ true
    pub stands : at (state_after st k.seen) n ≡ Some o

  -- The history goes on from what the pass has seen, with no entry of its own and none that changes what it holds. It is lawful where that was lawful.
  pub record SeesOn (k : Passing D) (log : Log Entry) : Type 0 where
    pub sees : IsPrefix k.seen log
    pub mine : own k.actor log ≡ own k.actor k.seen
    pub lawful : IsLawfulHere st k.seen → IsLawfulHere st log
    pub kept : (n : Name) → Within st.scene.settings n → has (number_of st n) k.holds ≡ true → at (state_after st log) n ≡ at (state_after st k.seen) n

  -- the object of this name was taken, which stands so after all that the pass then sees
  pub record Gets (k l : Passing D) (n : Name) (o : Object) : Type 0 where
    pub same : l ≡ having_taken k (number_of st n) l.seen
    pub on : SeesOn k l.seen
    pub lawful : IsLawfulHere st l.seen
    pub stands : at (state_after st l.seen) n ≡ Some o

  -- another actor had the object of this name, which is not so where the pass is alone
  pub record Misses (k l : Passing D) (n : Name) (b : Busy) : Type 0 where
    pub number : b.object ≡ number_of st n
    pub same : l ≡ refused_by k b.object b.by
    pub other : b.by ≢ k.actor
    pub alone : ¬ (IsAlone k)

  -- The pass sees more, and then its entry, whose place is the ticket. What it holds is as the entry makes it.
  pub record Commits (k l : Passing D) (e : Entry) (ticket : ℕ) : Type 0 where
    pub before : Log Entry
    pub on : SeesOn k before
    pub same : l ≡ having_seen k (before ++ (k.actor, e) ∷ [])
    pub place : ticket ≡ length before
    pub sees : IsPrefix k.seen l.seen
    pub before_lawful : IsLawfulHere st before
    pub entry_lawful : IsLawful (state_after st before) e
    pub lawful : IsLawfulHere st l.seen
    pub mine : own k.actor l.seen ≡ own k.actor k.seen ++ (k.actor, e) ∷ []
    pub kept : (n : Name) → Within st.scene.settings n → has (number_of st n) k.holds ≡ true →
        at (state_after st l.seen) n ≡ at (next (state_after st k.seen) e) n
