-- A core, its share and more objects are held: how they are taken, acknowledged and put back.
use Rattle.std.proofs.Common.{◌≡◌, ℕ, ◌<◌, true, List, [], ◌∷◌, ◌++◌, Some, refl, sym, ap, ◌∙◌, subst, inl, inr}
use Rattle.std.proofs.lemmas.Option.{slice_get_within}
use Rattle.dc_base.specs.declared.actions.Action.TheVariants as action
use Rattle.dc_base.specs.declared.actions.Actor.TheVariants as actor
use Rattle.dc_base.specs.declared.entries.Entry.{Entry}
use Rattle.dc_base.specs.Changes.{Name, Change, Object, a_block, a_core, a_mailbox, apply, at}
use Rattle.dc_base.specs.Histories.{Listed, next}
use Rattle.dc_base.specs.Objects.{HasSizes}
use Rattle.dc_base.specs.Sound.{IsSound}
use Rattle.dc_base.specs.States.{State, Member}
use Rattle.dc_bodies.specs.Does.{Does}
use Rattle.dc_touch.specs.Within.{Within}
use Rattle.dc_touch.proofs.Covers.{split_listed}
use Rattle.dc_touch.proofs.Frames.{same_block, same_core}
use Rattle.dc_touch.proofs.Looks.{listed_front, listed_back}
use Rattle.dc_touch.proofs.SizeLaws.{sizes_stay}
use Rattle.dc_stage.specs.Numbers.{has}
use Rattle.dc_stage.specs.Passes.{having_put}
use Rattle.dc_hands.specs.declared.answers.Turned.{Turned}
use Rattle.dc_hands.specs.declared.hands.CoreHand.{CoreHand}
use Rattle.dc_hands.specs.declared.takes.Busy.{Busy}
use Rattle.dc_hands.specs.Machines.{Staged, Passing, IsOpened, IsLawfulHere, state_after, number_of}
use Rattle.dc_hands.specs.Holding.{Has, Gets, Misses}
use Rattle.dc_hands.specs.Hands.{HoldsCore, HoldsJust, objects_of}
use Rattle.dc_core_turns.specs.Ordering.{Shows, HoldsBeside, Acknowledges}
use Rattle.dc_core_turns.proofs.CoreEntries.{made_next}
use Rattle.dc_hands.proofs.HeldHands.{block_listed, listed_of}
use Rattle.dc_hands.proofs.HeldNames.{AreWithin, just_back, just_held, just_missed, just_taken}
use Rattle.dc_hands.proofs.Seeing.{goes_missed, goes_taken}
use Rattle.dc_hands.proofs.Sounding.{sized_after, sound_after}

-- what a hand shows stands alike where all its objects do
pub shows_alike : {D : Type 0} (s t : State) (h : CoreHand D) → Shows s h → ((n : Name) → Listed n (objects_of h.number.0 h.core.share) → at t n ≡ at s n) → Shows t h
shows_alike s t h shows same = record {
  core = same_core t s h.number.0 (same (a_core h.number.0) (inl refl)) ∙ shows.core;
  blocks = λ b i. let x = shows.blocks b i in (x.0, x.1, same_block t s b (same (a_block b) (inr (block_listed h.core.share b i))) ∙ x.2);
  others = shows.others;
}

-- a mailbox is not among the objects of a core
pub no_mailbox_in : (d c : ℕ) (share : List Member) → Listed (a_mailbox d) (objects_of c share) → ⊥
no_mailbox_in d c share l = listed_of c share (λ n. n ≡ a_mailbox d → ⊥) (λ q. cc) (λ b i q. cc) (a_mailbox d) l refl

no_mailbox : (d c : ℕ) (share : List Member) (ns : List Name) → (Listed (a_mailbox d) ns → ⊥) → Listed (a_mailbox d) (ns ++ objects_of c share) → ⊥
no_mailbox d c share ns out l = elim (split_listed (a_mailbox d) ns (objects_of c share) l) [ inl x ↦ out x | inr x ↦ no_mailbox_in d c share x ]

module _ {D : Type 0} (st : Staged D) where
  -- the objects that a hand shows are those of the machine
  pub shown_within : (s : State) (h : CoreHand D) → HasSizes st.scene.settings s → Shows s h → AreWithin st (objects_of h.number.0 h.core.share)
  shown_within s h sizes shows n l = listed_of h.number.0 h.core.share (Within st.scene.settings)
      (subst (λ m. h.number.0 < m) sizes.cores (slice_get_within s.cores h.number.0 h.core shows.core))
      (λ b i. let x = shows.blocks b i in subst (λ m. b < m) sizes.blocks (slice_get_within s.blocks b x.0 x.2))
      n l

  pub within_both : (ns ms : List Name) → AreWithin st ns → AreWithin st ms → AreWithin st (ns ++ ms)
  within_both ns ms a b n l = elim (split_listed n ns ms l) [ inl x ↦ a n x | inr x ↦ b n x ]

  pub beside_of_core : (k : Passing D) (h : CoreHand D) → HoldsCore st k h → HoldsBeside st k h []
  beside_of_core k h holds = record {
    actor = holds.actor;
    lawful = holds.lawful;
    shows = record { core = holds.core; blocks = holds.blocks; others = holds.others };
    holds = holds.holds;
  }

  pub core_of_beside : (k : Passing D) (h : CoreHand D) → HoldsBeside st k h [] → HoldsCore st k h
  core_of_beside k h holds = record {
    actor = holds.actor;
    lawful = holds.lawful;
    core = holds.shows.core;
    blocks = holds.shows.blocks;
    others = holds.shows.others;
    holds = holds.holds;
  }

  module _ (opened : IsOpened st) (k : Passing D) (h : CoreHand D) (ns : List Name) (holds : HoldsBeside st k h ns) where
    pub beside_sound : IsSound (state_after st k.seen)
    beside_sound = sound_after st opened k.seen holds.lawful

    pub beside_within : AreWithin st (objects_of h.number.0 h.core.share)
    beside_within = shown_within (state_after st k.seen) h (sized_after st opened k.seen) holds.shows

    pub beside_held : (n : Name) → Listed n (objects_of h.number.0 h.core.share) → has (number_of st n) k.holds ≡ true
    beside_held n l = just_held st k n (ns ++ objects_of h.number.0 h.core.share) holds.holds (listed_back n ns (objects_of h.number.0 h.core.share) l)

    -- an object beside the core's
    pub beside_has : (n : Name) (o : Object) → Listed n ns → Within st.scene.settings n → at (state_after st k.seen) n ≡ Some o → Has st k n o
    beside_has n o l within stands = record {
      within = within;
      held = just_held st k n (ns ++ objects_of h.number.0 h.core.share) holds.holds (listed_front n ns (objects_of h.number.0 h.core.share) l);
      stands = stands;
    }

    pub beside_taken : (l : Passing D) (n : Name) (o : Object) → Gets st k l n o → HoldsBeside st l h (n ∷ ns)
    beside_taken l n o gets = record {
      actor = (goes_taken st k l n o gets).actor ∙ holds.actor;
      lawful = gets.lawful;
      shows = shows_alike (state_after st k.seen) (state_after st l.seen) h holds.shows (λ m i. gets.on.kept m (beside_within m i) (beside_held m i));
      holds = just_taken st k l n o (ns ++ objects_of h.number.0 h.core.share) holds.holds gets;
    }

    pub beside_missed : (l : Passing D) (n : Name) (b : Busy) → Misses st k l n b → HoldsBeside st l h ns
    beside_missed l n b misses = record {
      actor = (goes_missed st k l n b misses).actor ∙ holds.actor;
      lawful = subst (λ (q : Passing D). IsLawfulHere st q.seen) (sym misses.same) holds.lawful;
      shows = subst (λ (q : Passing D). Shows (state_after st q.seen) h) (sym misses.same) holds.shows;
      holds = just_missed st k l n b (ns ++ objects_of h.number.0 h.core.share) holds.holds misses;
    }

  module _ (opened : IsOpened st) (k : Passing D) (h : CoreHand D) (n : Name) (ns : List Name) (holds : HoldsBeside st k h (n ∷ ns)) where
    -- the object that was taken last goes back
    pub beside_put : (l : Passing D) → Within st.scene.settings n → AreWithin st ns → (Listed n (ns ++ objects_of h.number.0 h.core.share) → ⊥)
        → l ≡ having_put k (number_of st n) → HoldsBeside st l h ns
    beside_put l within all out put = record {
      actor = ap (λ (q : Passing D). q.actor) put ∙ holds.actor;
      lawful = subst (λ (q : Passing D). IsLawfulHere st q.seen) (sym put) holds.lawful;
      shows = subst (λ (q : Passing D). Shows (state_after st q.seen) h) (sym put) holds.shows;
      holds = just_back st k l n (ns ++ objects_of h.number.0 h.core.share) holds.holds within
          (within_both ns (objects_of h.number.0 h.core.share) all (beside_within opened k h (n ∷ ns) holds)) out put;
    }

  -- the order was carried out, its entry made, and the mailbox put back
  module _ (opened : IsOpened st) (k l : Passing D) (h : CoreHand D) (changes : List Change) (e : Entry) (r : Turned)
      (does : Does (state_after st k.seen) (actor.Core h.number) action.Order changes e) (acks : Acknowledges st k l h.number e r) where
    stands_next : next (state_after st k.seen) e ≡ apply (state_after st k.seen) changes
    stands_next = made_next (state_after st k.seen) h.number action.Order changes e does

    sizes_next : HasSizes st.scene.settings (apply (state_after st k.seen) changes)
    sizes_next = subst (HasSizes st.scene.settings) stands_next (sizes_stay st.scene.settings (state_after st k.seen) e (sized_after st opened k.seen))

    -- what was held stands as the order makes it
    pub stands_acknowledged : (n : Name) → Within st.scene.settings n → has (number_of st n) k.holds ≡ true
        → at (state_after st l.seen) n ≡ at (apply (state_after st k.seen) changes) n
    stands_acknowledged n within held = acks.kept n within held ∙ ap (λ (s : State). at s n) stands_next

    module _ (ns : List Name) (holds : HoldsJust st k (a_mailbox h.number.0 ∷ ns)) (mine : Within st.scene.settings (a_mailbox h.number.0)) where
      -- all but the mailbox is still held
      pub just_acknowledged : AreWithin st ns → (Listed (a_mailbox h.number.0) ns → ⊥) → HoldsJust st l ns
      just_acknowledged all out i =
          ap (has i) acks.holds
          ∙ just_back st k (having_put k (number_of st (a_mailbox h.number.0))) (a_mailbox h.number.0) ns holds mine all out refl i

    pub beside_acknowledged : (ns : List Name) → HoldsJust st k (a_mailbox h.number.0 ∷ ns ++ objects_of h.number.0 h.core.share)
        → Within st.scene.settings (a_mailbox h.number.0) → AreWithin st ns → (Listed (a_mailbox h.number.0) ns → ⊥)
        → k.actor ≡ h.number.0 → Shows (apply (state_after st k.seen) changes) h → HoldsBeside st l h ns
    beside_acknowledged ns holds mine all out by shows =
        let within : AreWithin st (objects_of h.number.0 h.core.share) = shown_within (apply (state_after st k.seen) changes) h sizes_next shows in
        record {
          actor = acks.on.actor ∙ by;
          lawful = acks.made.lawful;
          shows = shows_alike (apply (state_after st k.seen) changes) (state_after st l.seen) h shows
              (λ n i. stands_acknowledged n (within n i)
              (just_held st k n (a_mailbox h.number.0 ∷ ns ++ objects_of h.number.0 h.core.share) holds (inr (listed_back n ns (objects_of h.number.0 h.core.share) i))));
          holds = just_acknowledged (ns ++ objects_of h.number.0 h.core.share) holds mine
              (within_both ns (objects_of h.number.0 h.core.share) all within)
              (no_mailbox h.number.0 h.number.0 h.core.share ns out);
        }
