-- The rule of the stage, over plain data. Word 0 is the length of the history. Word i + 1 is the turn of object i: 0 where it is at home, and else one more
-- than the number of the actor that holds it.
use Rattle.std.specs.Prelude.{◌≡◌, ◌≢◌, ℕ, ◌+◌, ◌^◌, ◌<◌, ◌≤◌, ◌⊎◌, true, false, cond, List, [], ◌∷◌, length, slice_index, Option, Some}
use mathlib.Core.Option.{some}
use mathlib.Core.Option as maybe
use mathlib.Core.List.{IsPrefix}
use lib.ListN.{get_elem?}
use Rattle.atomic_table.specs.Table.{State}
use Rattle.dc_stage.specs.Numbers.{has, has_pair, IsApart}
use Rattle.dc_stage.specs.History.{Meaning, Log, own, after, IsLawful}
use Rattle.dc_stage.specs.Pasts.{actors_of, took_by}
use Rattle.dc_stage.specs.declared.view.View.{View}
use Rattle.dc_stage.specs.declared.view.Past.{Past}

module _ {En Sc : Type 0} where
  -- how many views have not ended
  abbrev pub alive_in : List (View Sc En) → ℕ
  alive_in [] = 0
  alive_in (v ∷ vs) = cond v.live 1 0 + alive_in vs

  -- a live view is of actor a and ever took i, or keeps that one which ended did
  abbrev pub HasTaken : List (View Sc En) → ℕ → ℕ → Type 0
  HasTaken views i a = (j : ℕ) × (v : View Sc En) × (get_elem? views j ≡ some v) × (v.live ≡ true)
      × (((v.actor ≡ a) × (has i v.took ≡ true)) ⊎ (took_by i a v.joined ≡ true))

  -- each of these refused takes names another actor, which ever took the object
  abbrev pub NamesTakersAmong : List (View Sc En) → ℕ → List (ℕ × ℕ) → Type 0
  NamesTakersAmong views by refused = (i a : ℕ) → has_pair i a refused ≡ true → (a ≢ by) × HasTaken views i a

  -- a live view holds i
  abbrev pub IsHeld : List (View Sc En) → ℕ → Type 0
  IsHeld views i = (j : ℕ) × (v : View Sc En) × (get_elem? views j ≡ some v) × (v.live ≡ true) × (has i v.holds ≡ true)

  -- the first view counts the passes that were made, and keeps those that ended
  pub record CrewIsKept (log : Log En) (views : List (View Sc En)) : Type 0 where
    pub head : View Sc En
    pub at : get_elem? views 0 ≡ some head
    pub alive : head.live ≡ true
    pub is_first : head.first ≡ true
    pub few : head.made ≤ 64
    pub unmade : (a : ℕ) → head.made ≤ a → own a log ≡ []
    pub below : (j : ℕ) (v : View Sc En) → get_elem? views j ≡ some v → v.live ≡ true → v.actor < head.made
    pub one : (j : ℕ) (v : View Sc En) → get_elem? views j ≡ some v → v.first ≡ true → j ≡ 0
    pub alone : (j : ℕ) (v : View Sc En) → get_elem? views j ≡ some v → v.first ≡ false → v.joined ≡ []
    pub ended : (k : ℕ) (x : Past En) → get_elem? head.joined k ≡ some x
        → (own x.actor log ≡ x.entries) × (x.actor < head.made) × ((j : ℕ) (v : View Sc En) → get_elem? views j ≡ some v → v.live ≡ true → v.actor ≢ x.actor)
    pub apart : IsApart (actors_of head.joined)
    pub count : alive_in views + length head.joined ≡ head.made

module _ {Wh St En Ob : Type 0} (p : Meaning Wh St En) (state : Ob → St) where
  -- object i is at home, in the state after the history
  abbrev pub IsHome : Log En → List ℕ → List (maybe.Option (Option Ob)) → ℕ → Type 0
  IsHome log words homes i = (slice_index words (i + 1) ≡ 0) × ((x : Ob) × (get_elem? homes i ≡ some (some (Some x))) × (state x ≡ after p log i))

module _ {Wh St En Sc : Type 0} (p : Meaning Wh St En) where
  -- What is so of each live view: it has seen a beginning of the history, with all entries of its actor; what it holds shows its number, and is in the same
  -- state after what it has seen as after the history.
  pub record ViewIsKept (sc : Sc) (log : Log En) (words : List ℕ) (v : View Sc En) : Type 0 where
    pub scene : v.scene ≡ Some sc
    pub told : IsPrefix v.told log
    pub sees : IsPrefix v.seen log
    pub mine : own v.actor log ≡ own v.actor v.seen
    pub small : v.actor < 64
    pub turn : (i : ℕ) → has i v.holds ≡ true → slice_index words (i + 1) ≡ v.actor + 1
    pub same : (i : ℕ) → has i v.holds ≡ true → after p v.seen i ≡ after p log i
    pub ever : (i : ℕ) → has i v.holds ≡ true → has i v.took ≡ true

module _ {Wh St En Ob Sc : Type 0} (p : Meaning Wh St En) (state : Ob → St) where
  -- What is so between any two steps: there is one lawful history, as long as word 0 says; each view has its part of it; each object is at home or held.
  pub record IsKept (sc : Sc) (s : State (Option Ob) (View Sc En)) : Type 0 where
    pub log : Log En
    pub lawful : IsLawful p log
    pub wide : length s.words ≡ length s.homes + 1
    pub long : slice_index s.words 0 ≡ length log
    pub few : (a : ℕ) → length (own a log) ≤ 2 ^ 56
    pub actors : (a : ℕ) → 64 ≤ a → own a log ≡ []
    pub each_view : (j : ℕ) (v : View Sc En) → get_elem? s.views j ≡ some v → v.live ≡ true → ViewIsKept p sc log s.words v
    pub apart : (j k : ℕ) (v w : View Sc En) → get_elem? s.views j ≡ some v → get_elem? s.views k ≡ some w
        → v.live ≡ true → w.live ≡ true → v.actor ≡ w.actor → j ≡ k
    pub each_turn : (i : ℕ) → i < length s.homes → IsHome p state log s.words s.homes i ⊎ IsHeld s.views i
    pub crew : CrewIsKept log s.views
    pub each_refusal : (j : ℕ) (v : View Sc En) → get_elem? s.views j ≡ some v → v.live ≡ true → NamesTakersAmong s.views v.actor v.refused
    pub past_refusals : (j : ℕ) (v : View Sc En) → get_elem? s.views j ≡ some v → v.live ≡ true
        → (k : ℕ) (x : Past En) → get_elem? v.joined k ≡ some x → NamesTakersAmong s.views x.actor x.refused
