-- A core that holds its mailbox carries out the order in it.
use Rattle.std.proofs.Common.{◌≡◌, ◌<◌, List, [], ◌∷◌, ◌++◌, Option, Some, None, refl, sym, ap, ◌∙◌, subst, inl, inr}
use Rattle.std.specs.Prelude.{slice_get}
use Rattle.std.specs.Option.{option_map}
use Rattle.std.proofs.lemmas.Option.{slice_get_within}
use Rattle.dc_base.specs.declared.actions.Action.TheVariants as action
use Rattle.dc_base.specs.declared.actions.Actor.TheVariants as actor
use Rattle.dc_base.specs.declared.commands.Order.{Order}
use Rattle.dc_base.specs.declared.entries.Entry.{Entry}
use Rattle.dc_base.specs.Changes.{Name, Change, a_core, a_mailbox, apply, mailbox}
use Rattle.dc_base.specs.Histories.{touched, Listed}
use Rattle.dc_base.specs.States.{Mailbox}
use Rattle.dc_base.specs.States.{order as ordered}
use Rattle.dc_bodies.specs.Does.{Does}
use Rattle.dc_bodies.specs.Ordered.{StandsAt}
use Rattle.dc_touch.specs.Within.{Within}
use Rattle.dc_touch.proofs.Looks.{listed_front, listed_back}
use Rattle.dc_hands.specs.declared.hands.CoreHand.{CoreHand}
use Rattle.dc_hands.specs.Machines.{Staged, Passing, IsOpened, state_after}
use Rattle.dc_hands.specs.Holding.{Has, Gets}
use Rattle.dc_hands.specs.Hands.{HoldsCore, objects_of}
use Rattle.dc_core_turns.specs.Ordering.{HoldsBeside, HoldsPosted, CarriesOut}
use Rattle.dc_core_turns.proofs.Beside.{beside_of_core, beside_taken, beside_has, beside_within, within_both}
use Rattle.dc_core_turns.proofs.CoreEntries.{made_touches}
use Rattle.dc_hands.proofs.HeldNames.{AreWithin, just_held}
use Rattle.dc_core_turns.proofs.OrderLooks.{order_blocks, order_looks}
use Rattle.dc_hands.proofs.Sounding.{sized_after}

-- a mailbox that stands at its name is there
pub mailbox_there : (o : Option Mailbox) (m : Mailbox) → option_map mailbox o ≡ Some (mailbox m) → o ≡ Some m
mailbox_there None m e = absurd cc
mailbox_there (Some x) m e = let same : x ≡ m = cc in ap Some same

module _ {D : Type 0} (st : Staged D) (opened : IsOpened st) where
  -- a core that was held takes its mailbox
  pub posted_taken : (k l : Passing D) (h : CoreHand D) (m : Mailbox) → HoldsCore st k h → Gets st k l (a_mailbox h.number.0) (mailbox m) → HoldsPosted st l h m
  posted_taken k l h m holds gets = record {
    beside = beside_taken st opened k h [] (beside_of_core st k h holds) l (a_mailbox h.number.0) (mailbox m) gets;
    mailbox = mailbox_there (slice_get (state_after st l.seen).mailboxes h.number.0) m gets.stands;
  }

  module _ (k : Passing D) (h : CoreHand D) (m : Mailbox) (posted : HoldsPosted st k h m) where
    pub posted_within : Within st.scene.settings (a_mailbox h.number.0)
    posted_within =
        subst (λ n. h.number.0 < n) (sized_after st opened k.seen).mailboxes (slice_get_within (state_after st k.seen).mailboxes h.number.0 m posted.mailbox)

    pub posted_has : Has st k (a_mailbox h.number.0) (mailbox m)
    posted_has =
        beside_has st opened k h (a_mailbox h.number.0 ∷ []) posted.beside (a_mailbox h.number.0) (mailbox m) (inl refl) posted_within
        (ap (option_map mailbox) posted.mailbox)

    -- the core stands as in the hand, and the order in its mailbox
    pub posted_stands : (o : Order) → m ≡ ordered o → StandsAt (state_after st k.seen) h.number.0 h.core (ordered o)
    posted_stands o is = record { core = posted.beside.shows.core; mailbox = posted.mailbox ∙ ap Some is }

  module _ (k : Passing D) (h : CoreHand D) (ns : List Name) (holds : HoldsBeside st k h ns) (o : Order)
      (at : StandsAt (state_after st k.seen) h.number.0 h.core (ordered o))
      (changes : List Change) (e : Entry) (does : Does (state_after st k.seen) (actor.Core h.number) action.Order changes e) where
    order_touches : touched (state_after st k.seen) e ≡ a_core h.number.0 ∷ a_mailbox h.number.0 ∷ order_blocks h.core o
    order_touches = made_touches (state_after st k.seen) h.number action.Order changes e does ∙ order_looks (state_after st k.seen) h.number h.core o at

    -- where the mailbox and all blocks at which the order looks are held, the core carries it out
    pub carries_out : AreWithin st ns → Listed (a_mailbox h.number.0) ns
        → ((n : Name) → Listed n (order_blocks h.core o) → Listed n (ns ++ objects_of h.number.0 h.core.share))
        → (m : Mailbox) → slice_get (apply (state_after st k.seen) changes).mailboxes h.number.0 ≡ Some m → CarriesOut st k h.number m e
    carries_out all mine blocks m made = record {
      actor = holds.actor;
      changes = changes;
      does = does;
      held = λ n l. let w = among n (subst (Listed n) order_touches l) in (
        within_both st ns (objects_of h.number.0 h.core.share) all (beside_within st opened k h ns holds) n w,
        just_held st k n (ns ++ objects_of h.number.0 h.core.share) holds.holds w,
      );
      mine = subst (Listed (a_mailbox h.number.0)) (sym order_touches) (inr (inl refl));
      mailbox = made;
    }
      where
        among : (n : Name) → Listed n (a_core h.number.0 ∷ a_mailbox h.number.0 ∷ order_blocks h.core o) → Listed n (ns ++ objects_of h.number.0 h.core.share)
        among n (inl q) = listed_back n ns (objects_of h.number.0 h.core.share) (inl q)
        among n (inr (inl q)) = listed_front n ns (objects_of h.number.0 h.core.share) (subst (λ x. Listed x ns) (sym q) mine)
        among n (inr (inr l)) = blocks n l
