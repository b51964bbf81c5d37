-- What the steps on the words of a stage tell the pass that makes them.
use Rattle.std.specs.Prelude.{◌≡◌, ◌≢◌, ℕ, ◌+◌, ◌<◌, true, [], ◌∷◌, ◌++◌, length, Option, Some}
use mathlib.Core.List.{IsPrefix}
use Rattle.atomic_table.specs.Table.{Me, Step, rest}
use Rattle.atomic_table.specs.Seated.{TableId}
use Rattle.dc_stage.specs.Numbers.{has}
use Rattle.dc_stage.specs.History.{Meaning, Log, own, after, IsLawful}
use Rattle.dc_stage.specs.Pasts.{EachOwn}
use Rattle.dc_stage.specs.Views.{taking, refusing, giving, seeing}
use Rattle.dc_stage.specs.declared.view.View.{View}
use Rattle.dc_stage.specs.declared.taken.Taken.{Taken}
use Rattle.dc_stage.specs.declared.taken.Taken.TheVariants.{Got, Busy}

-- the seat is one of this board, which has a word for the history and one for each object
abbrev pub SitsAt : TableId → TableId → Type 0
SitsAt seat board = (seat ≡ board) × (board.words ≡ board.slots + 1)

-- the view of a seat, and the slots that it carries
abbrev pub At : Type 0 → Type 0 → Type 0 → Type 0
At Sc En Ob = Me (Option Ob) (View Sc En)

module _ {Sc En : Type 0} where
  -- it is the first view, and all passes that it made were joined to it
  abbrev pub ViewIsAlone : View Sc En → Type 0
  ViewIsAlone v = (v.first ≡ true) × (v.made ≡ length v.joined + 1)

module _ {Wh St En Sc : Type 0} (meaning : Sc → Meaning Wh St En) where
  -- The log is lawful and goes on from what was seen, with no new entry of the view's own, none of those that ended, and none that changes what it holds.
  pub record GoesOn (v : View Sc En) (log : Log En) : Type 0 where
    pub scene : Sc
    pub at : v.scene ≡ Some scene
    pub sees : IsPrefix v.seen log
    pub lawful : IsLawful (meaning scene) log
    pub mine : own v.actor log ≡ own v.actor v.seen
    pub told : IsPrefix v.told log
    pub joined : EachOwn v.joined log
    pub kept : (i : ℕ) → has i v.holds ≡ true → after (meaning scene) log i ≡ after (meaning scene) v.seen i

module _ {Wh St En Ob Sc : Type 0} (meaning : Sc → Meaning Wh St En) where
  -- what a try for object i tells: i was taken, in the state after all that is then seen, or another's number was found
  abbrev pub took : (Ob → St) → Step (Option Ob) → At Sc En Ob → ℕ → At Sc En Ob → Type 0
  took state st m r m' = (i : ℕ) × (st.word ≡ i + 1)
      × (r ≡ 0 → (x : Ob) × (log : Log En) × (g : GoesOn meaning m.0 log)
      × (m' ≡ (taking m.0 i log, (i, Some x) ∷ m.1)) × (state x ≡ after (meaning g.scene) log i))
      × (r ≢ 0 → (a : ℕ) × (r ≡ a + 1) × (a < 64) × (m' ≡ (refusing m.0 i a, m.1)) × (a ≢ m.0.actor) × ¬ (ViewIsAlone m.0))

  -- the entry was added to a history that goes on from what was seen
  abbrev pub committed : Option En → Step (Option Ob) → At Sc En Ob → ℕ → At Sc En Ob → Type 0
  committed said st m r m' = (e : En) × (between : Log En) × (g : GoesOn meaning m.0 (m.0.seen ++ between)) × (said ≡ Some e)
      × (m' ≡ (seeing m.0 ((m.0.seen ++ between) ++ (m.0.actor, e) ∷ []), m.1)) × (r ≡ length (m.0.seen ++ between)) × (own m.0.actor between ≡ [])
      × IsLawful (meaning g.scene) ((m.0.seen ++ between) ++ (m.0.actor, e) ∷ []) × EachOwn m.0.joined ((m.0.seen ++ between) ++ (m.0.actor, e) ∷ [])

  -- all entries were seen
  abbrev pub looked : Step (Option Ob) → At Sc En Ob → ℕ → At Sc En Ob → Type 0
  looked st m r m' = (log : Log En) × GoesOn meaning m.0 log × (m' ≡ (seeing m.0 log, m.1)) × (r ≡ length log)

module _ {Wh St En Ob Sc : Type 0} (meaning : Sc → Meaning Wh St En) (state : Ob → St) where
  -- the seat has object i out with it, or knows who has it
  abbrev pub Reaches : At Sc En Ob → ℕ → Taken Ob → At Sc En Ob → Type 0
  Reaches m i (Got x) m' = (log : Log En) × (g : GoesOn meaning m.0 log) × (y : Option Ob)
      × (m' ≡ (taking m.0 i log, (i, y) ∷ m.1)) × (state x ≡ after (meaning g.scene) log i)
  Reaches m i (Busy a) m' = (m' ≡ (refusing m.0 i a, m.1)) × (a ≢ m.0.actor) × ¬ (ViewIsAlone m.0)

-- the object of the slot that was taken last went home
abbrev pub gave : {Sc En Ob : Type 0} → Step (Option Ob) → At Sc En Ob → ℕ → At Sc En Ob → Type 0
gave st m r m' = (i : ℕ) × (st.word ≡ i + 1) × (r ≡ st.first) × (m' ≡ (giving m.0 i, rest m.1))
