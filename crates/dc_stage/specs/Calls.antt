-- What the calls of a stage ask, and what they do. A pass is k before the call and l after it.
use Rattle.std.specs.Prelude.{◌≡◌, ◌≢◌, ℕ, ◌∷◌, ◌++◌, [], length, true, false}
use mathlib.Core.List.{IsPrefix}
use Rattle.dc_stage.specs.Numbers.{has, IsApart}
use Rattle.dc_stage.specs.History.{Meaning, Log, own, whole_after, after, IsLawful, IsLawfulAfter, TouchesOnly}
use Rattle.dc_stage.specs.Pasts.{actors_of, EachOwn}
use Rattle.dc_stage.specs.Passes.{Known, IsAlone, having_seen, having_taken, refused_by, having_joined, passes_of}
use Rattle.dc_stage.specs.declared.taken.Taken.{Taken}
use Rattle.dc_stage.specs.declared.taken.Taken.TheVariants.{Got, Busy}

module _ {Wh St En Sc : Type 0} (p : Meaning Wh St En) where
  -- the whole after all that the pass has seen
  abbrev pub whole_seen : Known Sc En → Wh
  whole_seen k = whole_after p k.seen

  -- the pass holds all that the entry touches
  abbrev pub HoldsTouched : Known Sc En → En → Type 0
  HoldsTouched k e = TouchesOnly p k.holds k.seen k.actor e

  -- the entry of its actor may follow what the pass has seen
  abbrev pub IsLawfulNext : Known Sc En → En → Type 0
  IsLawfulNext k e = IsLawfulAfter p k.seen k.actor e

  -- A lawful history that goes on from what the pass has seen, with no new entry of its own, none of those that were joined to it, and none that changes what
  -- it holds.
  pub record SeesMore (k : Known Sc En) (log : Log En) : Type 0 where
    pub sees : IsPrefix k.seen log
    pub mine : own k.actor log ≡ own k.actor k.seen
    pub joined : EachOwn k.joined log
    pub lawful : IsLawful p log
    pub kept : (i : ℕ) → has i k.holds ≡ true → after p log i ≡ after p k.seen i

  -- The pass sees more, and then its entry, whose place is the ticket. The longer history is lawful, has one entry more of its own and none more of those that
  -- were joined to it, and what it holds is as the entry makes it.
  pub record Commits (k l : Known Sc En) (e : En) (ticket : ℕ) : Type 0 where
    pub before : Log En
    pub more : SeesMore k before
    pub same : l ≡ having_seen k (before ++ (k.actor, e) ∷ [])
    pub place : ticket ≡ length before
    pub sees : IsPrefix k.seen l.seen
    pub mine : own k.actor l.seen ≡ own k.actor k.seen ++ (k.actor, e) ∷ []
    pub joined : EachOwn k.joined l.seen
    pub lawful : IsLawful p l.seen
    pub kept : (i : ℕ) → has i k.holds ≡ true → after p l.seen i ≡ p.at (p.next (whole_seen k) k.actor e) i

  -- The pass u ended and was joined to the first, which then sees what both had seen, and of the other actor just its entries.
  pub record Joins (k u l : Known Sc En) : Type 0 where
    pub same : l ≡ having_joined k u l.seen
    pub more : SeesMore k l.seen
    pub sees_theirs : IsPrefix u.seen l.seen
    pub theirs : own u.actor l.seen ≡ own u.actor u.seen
    pub joined : EachOwn l.joined l.seen

  -- What the pass has seen is the whole history: it is lawful, has of each pass just its own entries, and no other entry.
  pub record SeesAll (k : Known Sc En) : Type 0 where
    pub lawful : IsLawful p k.seen
    pub entries : EachOwn (passes_of k) k.seen
    pub others : (a : ℕ) → has a (actors_of (passes_of k)) ≡ false → own a k.seen ≡ []
    pub apart : IsApart (actors_of (passes_of k))

module _ {Wh St En Sc Ob : Type 0} (p : Meaning Wh St En) (state : Ob → St) where
  -- object i was taken, in the state after all that is then seen
  pub record Gets (k l : Known Sc En) (i : ℕ) (x : Ob) : Type 0 where
    pub same : l ≡ having_taken k i l.seen
    pub more : SeesMore p k l.seen
    pub state_is : state x ≡ after p l.seen i

  -- object i was with another actor, which is not so where the pass is alone
  pub record Misses (k l : Known Sc En) (i by : ℕ) : Type 0 where
    pub same : l ≡ refused_by k i by
    pub other : by ≢ k.actor
    pub alone : ¬ (IsAlone k)

  abbrev pub Tries : Known Sc En → Known Sc En → ℕ → Taken Ob → Type 0
  Tries k l i (Got x) = Gets k l i x
  Tries k l i (Busy by) = Misses k l i by

-- the object was taken
abbrev pub IsGot : {Ob : Type 0} → Taken Ob → Type 0
IsGot (Got x) = Unit {0}
IsGot (Busy by) = ⊥
