-- What a core's hand holds, with more objects beside it, and what stands in it.
use Rattle.std.proofs.Common.{◌≡◌, ◌⊎◌, ℕ, ◌<◌, true, true≢false, List, [], ◌∷◌, ◌++◌, Option, Some, None, refl, sym, ap, ◌∙◌, subst, inl, inr}
use Rattle.std.specs.Prelude.{slice_get}
use Rattle.std.specs.Option.{option_map}
use Rattle.std.proofs.lemmas.Option.{slice_get_within}
use Rattle.dc_base.specs.Changes.{Name, a_core, a_block, Object, core, block}
use Rattle.dc_base.specs.Histories.{Listed}
use Rattle.dc_base.specs.Outcomes.{has as in_share}
use Rattle.dc_base.specs.Sound.{IsSound}
use Rattle.dc_base.specs.States.{Core, Member, Block}
use Rattle.dc_touch.specs.Within.{Within}
use Rattle.dc_stage.specs.Passes.{having_put}
use Rattle.dc_stage.specs.History.{Log}
use Rattle.dc_base.specs.declared.entries.Entry.{Entry}
use Rattle.dc_hands.specs.declared.hands.CoreHand.{CoreHand}
use Rattle.dc_hands.specs.declared.takes.Busy.{Busy}
use Rattle.dc_core_turns.specs.Beside.{StandsIn, HoldsBeside}
use Rattle.dc_hands.specs.Hands.{HoldsCore, HoldsJust, objects_of}
use Rattle.dc_hands.specs.Holding.{Has, SeesOn, Gets, Misses}
use Rattle.dc_hands.specs.Machines.{Staged, Passing, IsOpened, state_after, number_of}
use Rattle.dc_hands.proofs.HeldHands.{IsBeyond, block_listed, listed_of}
use Rattle.dc_hands.proofs.HeldNames.{AreWithin, just_held, just_taken, just_missed, just_put, unlisted}
use Rattle.dc_hands.proofs.Seeing.{sees_same}
use Rattle.dc_hands.proofs.Sounding.{sized_after, sound_after}

pub core_at : (o : Option Core) (x : Core) → option_map core o ≡ Some (core x) → o ≡ Some x
core_at None x e = absurd cc
core_at (Some y) x e = let q : core y ≡ core x = cc in let r : y ≡ x = cc in ap Some r

pub block_at : (o : Option Block) (x : Block) → option_map block o ≡ Some (block x) → o ≡ Some x
block_at None x e = absurd cc
block_at (Some y) x e = let q : block y ≡ block x = cc in let r : y ≡ x = cc in ap Some r

pub listed_left : (n : Name) (ms ns : List Name) → Listed n ms → Listed n (ms ++ ns)
listed_left n [] ns l = absurd l
listed_left n (m ∷ ms) ns (inl e) = inl e
listed_left n (m ∷ ms) ns (inr l) = inr (listed_left n ms ns l)

pub listed_right : (n : Name) (ms ns : List Name) → Listed n ns → Listed n (ms ++ ns)
listed_right n [] ns l = l
listed_right n (m ∷ ms) ns l = inr (listed_right n ms ns l)

pub listed_parts : (n : Name) (ms ns : List Name) → Listed n (ms ++ ns) → Listed n ms ⊎ Listed n ns
listed_parts n [] ns l = inr l
listed_parts n (m ∷ ms) ns (inl e) = inl (inl e)
listed_parts n (m ∷ ms) ns (inr l) = elim (listed_parts n ms ns l) [
  | inl k ↦ inl (inr k)
  | inr k ↦ inr k
]

-- what is beyond a core's objects is none of them
pub none_of_core : (c : ℕ) (share : List Member) (n : Name) → IsBeyond c share n → Listed n (objects_of c share) → ⊥
none_of_core c share n far l =
    listed_of c share (λ m. IsBeyond c share m → ⊥) (λ f. f refl) (λ b h f. true≢false (sym h ∙ f)) n l far

module _ {D : Type 0} (st : Staged D) where
  -- a hand with nothing beside it
  pub beside_nothing : (k : Passing D) (h : CoreHand D) → HoldsCore st k h → HoldsBeside st k h []
  beside_nothing k h c = record {
    actor = c.actor;
    lawful = c.lawful;
    stands = record { core = c.core; blocks = c.blocks; others = c.others };
    holds = c.holds;
  }

  pub just_hand : (k : Passing D) (h : CoreHand D) → HoldsBeside st k h [] → HoldsCore st k h
  just_hand k h c = record {
    actor = c.actor;
    lawful = c.lawful;
    core = c.stands.core;
    blocks = c.stands.blocks;
    others = c.stands.others;
    holds = c.holds;
  }

  module _ (opened : IsOpened st) (k : Passing D) (h : CoreHand D) (ns : List Name) (holds : HoldsBeside st k h ns) where
    abbrev mine : List Name
    mine = objects_of h.number.0 h.core.share

    core_within : Within st.scene.settings (a_core h.number.0)
    core_within = subst (λ n. h.number.0 < n) (sized_after st opened k.seen).cores (slice_get_within (state_after st k.seen).cores h.number.0 h.core holds.stands.core)

    block_within : (b : ℕ) (x : Block) → slice_get (state_after st k.seen).blocks b ≡ Some x → Within st.scene.settings (a_block b)
    block_within b x e = subst (λ n. b < n) (sized_after st opened k.seen).blocks (slice_get_within (state_after st k.seen).blocks b x e)

    pub mine_within : AreWithin st mine
    mine_within n l = listed_of h.number.0 h.core.share (Within st.scene.settings) core_within
        (λ b i. let x = holds.stands.blocks b i in block_within b x.0 x.2) n l

    -- the core is held
    pub core_held : Has st k (a_core h.number.0) (core h.core)
    core_held = record {
      within = core_within;
      held = just_held st k (a_core h.number.0) (ns ++ mine) holds.holds (listed_right (a_core h.number.0) ns mine (inl refl));
      stands = ap (option_map core) holds.stands.core;
    }

    -- a block of the share is held
    pub block_held : (b : ℕ) (x : Block) → in_share h.core.share b ≡ true → slice_get (state_after st k.seen).blocks b ≡ Some x → Has st k (a_block b) (block x)
    block_held b x i e = record {
      within = block_within b x e;
      held = just_held st k (a_block b) (ns ++ mine) holds.holds (listed_right (a_block b) ns mine (inr (block_listed h.core.share b i)));
      stands = ap (option_map block) e;
    }

    -- the hand stands so in each state to which the history goes on
    pub hand_stands : (log : Log Entry) → SeesOn st k log → StandsIn h (state_after st log)
    hand_stands log on = record {
      core = core_at (slice_get (state_after st log).cores h.number.0) h.core (on.kept (a_core h.number.0) core_held.within core_held.held ∙ core_held.stands);
      blocks = λ b i.
          let x = holds.stands.blocks b i in
          let held = block_held b x.0 i x.2 in
          (x.0, x.1, block_at (slice_get (state_after st log).blocks b) x.0 (on.kept (a_block b) held.within held.held ∙ held.stands));
      others = holds.stands.others;
    }

    -- the machine is sound after all that the pass has seen
    pub hand_sound : IsSound (state_after st k.seen)
    hand_sound = sound_after st opened k.seen holds.lawful

    -- and where it goes on
    pub later_sound : (log : Log Entry) → SeesOn st k log → IsSound (state_after st log)
    later_sound log on = sound_after st opened log (on.lawful holds.lawful)

    -- the hand as it was, where the pass goes on and holds others beside it
    pub beside_later : (l : Passing D) (ms : List Name) → l.actor ≡ k.actor → SeesOn st k l.seen → HoldsJust st l (ms ++ mine) → HoldsBeside st l h ms
    beside_later l ms same on just = record {
      actor = same ∙ holds.actor;
      lawful = on.lawful holds.lawful;
      stands = hand_stands l.seen on;
      holds = just;
    }

    -- one object more was taken
    pub beside_taken : (l : Passing D) (n : Name) (o : Object) → Gets st k l n o → HoldsBeside st l h (n ∷ ns)
    beside_taken l n o g = beside_later l (n ∷ ns) (ap (λ (p : Passing D). p.actor) g.same) g.on (just_taken st k l n o (ns ++ mine) holds.holds g)

    -- another actor had the object
    pub beside_missed : (l : Passing D) (n : Name) (b : Busy) → Misses st k l n b → HoldsBeside st l h ns
    beside_missed l n b g = beside_later l ns (ap (λ (p : Passing D). p.actor) g.same) (sees_same st k l (ap (λ (p : Passing D). p.seen) g.same)) (just_missed st k l n b (ns ++ mine) holds.holds g)

  -- the object beside the hand goes back
  pub beside_put : (opened : IsOpened st) (k l : Passing D) (h : CoreHand D) (n : Name) → HoldsBeside st k h (n ∷ []) → Within st.scene.settings n → IsBeyond h.number.0 h.core.share n
      → l ≡ having_put k (number_of st n) → HoldsBeside st l h []
  beside_put opened k l h n holds within far e =
      let mine : List Name = objects_of h.number.0 h.core.share in
      let none = unlisted st n mine within (mine_within opened k h (n ∷ []) holds) (none_of_core h.number.0 h.core.share n far) in
      beside_later opened k h (n ∷ []) holds l [] (ap (λ (p : Passing D). p.actor) e) (sees_same st k l (ap (λ (p : Passing D). p.seen) e))
      (just_put st k l n mine holds.holds none e)
