-- The core takes its mailbox, or cannot, and the mailbox without an order goes back.
use Rattle.std.proofs.Common.{◌≡◌, ◌<◌, false, [], refl, ap, subst}
use Rattle.std.proofs.lemmas.Option.{slice_get_within}
use Rattle.dc_base.specs.declared.actions.Action.TheVariants as action
use Rattle.dc_base.specs.declared.actions.Actor.TheVariants as actor
use Rattle.dc_base.specs.declared.entries.Reason.{Reason}
use Rattle.dc_base.specs.Changes.{a_mailbox}
use Rattle.dc_base.specs.States.{Mailbox}
use Rattle.dc_base.specs.Turns.{not_enabled}
use Rattle.dc_bodies.specs.Ordered.{IsNoOrder}
use Rattle.dc_machine.proofs.Bodies.{none_step}
use Rattle.dc_stage.specs.History.{own}
use Rattle.dc_stage.specs.Numbers.{has}
use Rattle.dc_stage.specs.Passes.{having_put}
use Rattle.dc_touch.specs.Within.{Within}
use Rattle.dc_hands.specs.declared.answers.Turned.TheVariants as turned
use Rattle.dc_hands.specs.declared.hands.CoreHand.{CoreHand}
use Rattle.dc_hands.specs.declared.takes.Busy.{Busy}
use Rattle.dc_hands.specs.Machines.{Staged, Passing, IsOpened, number_of, state_after}
use Rattle.dc_hands.specs.Holding.{Misses}
use Rattle.dc_hands.specs.Answers.{AnswersTurn, Fails, WasRefused}
use Rattle.dc_hands.specs.Hands.{HoldsCore}
use Rattle.dc_core_turns.specs.Ordering.{HoldsPosted}
use Rattle.dc_core_turns.proofs.AnswersLater.{answers_put}
use Rattle.dc_core_turns.proofs.Beside.{beside_missed, beside_of_core, beside_put, core_of_beside, no_mailbox_in}
use Rattle.dc_hands.proofs.HeldHands.{none_beyond}
use Rattle.dc_core_turns.proofs.OrderCarried.{posted_within}
use Rattle.dc_core_turns.proofs.OrderLooks.{mailbox_looked}
use Rattle.dc_hands.proofs.Sounding.{sized_after}

module _ {D : Type 0} (st : Staged D) (opened : IsOpened st) (k : Passing D) (h : CoreHand D) where
  module _ (holds : HoldsCore st k h) where
    -- the mailbox is one of the machine, and not held
    pub letter_within : Within st.scene.settings (a_mailbox h.number.0)
    letter_within =
        let sizes = sized_after st opened k.seen in
        subst (λ n. h.number.0 < n) sizes.cores (slice_get_within (state_after st k.seen).cores h.number.0 h.core holds.core)

    pub letter_free : has (number_of st (a_mailbox h.number.0)) k.holds ≡ false
    letter_free = none_beyond st opened k h holds (a_mailbox h.number.0) letter_within tt

    module _ (l : Passing D) (busy : Busy) (misses : Misses st k l (a_mailbox h.number.0) busy) where
      pub letter_missed : HoldsCore st l h
      letter_missed = core_of_beside st l h (beside_missed st opened k h [] (beside_of_core st k h holds) l (a_mailbox h.number.0) busy misses)

      pub letter_refused : WasRefused st k l 0 (actor.Core h.number) action.Order busy
      letter_refused = record {
        others = ap (λ (q : Passing D). own k.actor q.seen) misses.same;
        refused = ap (λ (q : Passing D). q.refused) misses.same;
        other = misses.other;
        looked = (
          a_mailbox h.number.0,
          misses.number,
          mailbox_looked (state_after st l.seen) h.number h.core letter_missed.core,
        );
      }

  module _ (m : Mailbox) (posted : HoldsPosted st k h m) where
    -- the mailbox goes back
    pub letter_back : (p : Passing D) → p ≡ having_put k (number_of st (a_mailbox h.number.0)) → HoldsCore st p h
    letter_back p put =
        core_of_beside st p h
        (beside_put st opened k h (a_mailbox h.number.0) [] posted.beside p (posted_within st opened k h m posted) (λ n w. absurd w)
        (no_mailbox_in h.number.0 h.number.0 h.core.share) put)

    pub letter_answers : (why : Reason) → IsNoOrder h.number.0 h.core m why → (p : Passing D) → p ≡ having_put k (number_of st (a_mailbox h.number.0))
        → AnswersTurn st k p 0 (actor.Core h.number) action.Order (turned.NotEnabled why)
    letter_answers why none p put =
        answers_put st k k p (number_of st (a_mailbox h.number.0)) 0 (actor.Core h.number) action.Order (turned.NotEnabled why) put fails
      where
        fails : Fails st k k 0 (actor.Core h.number) action.Order (not_enabled why)
        fails = record {
          others = refl;
          refused = refl;
          turn = none_step (state_after st k.seen) (actor.Core h.number) action.Order why
              (none (state_after st k.seen) (record { core = posted.beside.shows.core; mailbox = posted.mailbox })) 0;
        }
