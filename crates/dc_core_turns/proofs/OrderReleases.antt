-- What stands after the turn of a release.
use Rattle.std.proofs.Common.{◌≡◌, ℕ, true, List, [], ◌∷◌, Some, None, refl, sym, ap, ◌∙◌, subst, inl, inr}
use Rattle.std.specs.Prelude.{slice_get}
use Rattle.std.specs.Option.{option_map}
use mathlib.Core.Logic.{dite}
use native.Mathlib.Decide.{ℕ_discrete}
use Rattle.dc_base.specs.declared.commands.Order.TheVariants as order
use Rattle.dc_base.specs.declared.entries.Entry.{Entry}
use Rattle.dc_base.specs.declared.numbers.BlockNo.{BlockNo}
use Rattle.dc_base.specs.Changes.{Name, Change, a_block, a_mailbox, block, block_becomes, core_becomes, mailbox_becomes}
use Rattle.dc_base.specs.Histories.{Listed}
use Rattle.dc_base.specs.Outcomes.{share_without}
use Rattle.dc_base.specs.Outcomes.{has as in_share}
use Rattle.dc_base.specs.States.{Block, Core, Mailbox, Member}
use Rattle.dc_base.specs.States.{order as ordered}
use Rattle.dc_block_sound.proofs.Elements.{set_here}
use Rattle.dc_bodies.specs.Ordered.{IsBlockOrder, DoesOrder}
use Rattle.dc_machine.proofs.OrderFacts.{IsReleasable, releasable}
use Rattle.dc_objects.specs.Blocks.{IsTimed}
use Rattle.dc_sound.proofs.Shares.{has-stays, has-without}
use Rattle.dc_stage.specs.Passes.{having_put}
use Rattle.dc_touch.specs.Within.{Within}
use Rattle.dc_hands.specs.declared.answers.Turned.{Turned}
use Rattle.dc_hands.specs.declared.hands.CoreHand.{CoreHand}
use Rattle.dc_hands.specs.Machines.{Staged, Passing, IsOpened, number_of, state_after}
use Rattle.dc_hands.specs.Holding.{Has}
use Rattle.dc_hands.specs.Hands.{HoldsCore, HoldsJust, objects_of}
use Rattle.dc_core_turns.specs.Ordering.{HoldsBeside, HoldsPosted, CarriesOut, Acknowledges}
use Rattle.dc_hands.specs.Rows.{Rowed, in_row}
use Rattle.dc_core_turns.proofs.Beside.{beside_acknowledged, beside_has, beside_held, beside_put, beside_sound, beside_within, core_of_beside, stands_acknowledged}
use Rattle.dc_hands.proofs.HeldHands.{block_listed, listed_of}
use Rattle.dc_hands.proofs.HeldNames.{just_alike}
use Rattle.dc_core_turns.proofs.OrderCarried.{carries_out, posted_stands, posted_within}
use Rattle.dc_core_turns.proofs.OrderCores.{ordered_share}
use Rattle.dc_core_turns.proofs.OrderShows.{shows_fewer}
use Rattle.dc_core_turns.proofs.OrderedTurns.{one_within}

-- a share is the block that leaves it, and the rest
module _ (c b : ℕ) (share : List Member) where
  rest_to : in_share share b ≡ true → (n : Name) → Listed n (a_block b ∷ objects_of c (share_without b share)) → Listed n (objects_of c share)
  rest_to there n (inl q) = subst (λ x. Listed x (objects_of c share)) (sym q) (inr (block_listed share b there))
  rest_to there n (inr l) = listed_of c (share_without b share) (λ x. Listed x (objects_of c share)) (inl refl)
      (λ d i. inr (block_listed share d (has-without b d share i).1)) n l

  to_rest : (n : Name) → Listed n (objects_of c share) → Listed n (a_block b ∷ objects_of c (share_without b share))
  to_rest n l = listed_of c share (λ x. Listed x (a_block b ∷ objects_of c (share_without b share))) (inr (inl refl))
      (λ d i. dite (ℕ_discrete d b)
      (λ q. inl (ap a_block q))
      (λ q. inr (inr (block_listed (share_without b share) d (has-stays b d share (λ p. q (sym p)) i))))) n l

  -- the block that left is not in the rest
  left_out : Listed (a_block b) (objects_of c (share_without b share)) → ⊥
  left_out l = listed_of c (share_without b share) (λ x. x ≡ a_block b → ⊥) (λ q. cc)
      (λ d i q. (has-without b d share i).0 (let e : d ≡ b = cc in sym e)) (a_block b) l refl

module _ {D : Type 0} (st : Staged D) (opened : IsOpened st) (k : Passing D) (h : CoreHand D) (m : Mailbox) (posted : HoldsPosted st k h m)
    (b : BlockNo) (is : m ≡ ordered (order.Release b)) where
  -- the block is in the share
  pub released : IsReleasable (state_after st k.seen) h.core b.0
  released =
      releasable (state_after st k.seen) (beside_sound st opened k h (a_mailbox h.number.0 ∷ []) posted.beside) h.number.0 h.core posted.beside.shows.core b
      (posted.mailbox ∙ ap Some is)

  pub released_in_row : (x : Block) × (in_row h.row b.0 ≡ Some x)
  released_in_row = let w = posted.beside.shows.blocks b.0 released.there in (w.0, w.1)

  module _ (x : Block) (here : in_row h.row b.0 ≡ Some x) where
    released_found : slice_get (state_after st k.seen).blocks b.0 ≡ Some x
    released_found =
        let w = posted.beside.shows.blocks b.0 released.there in
        w.2 ∙ (let both : Some w.0 ≡ Some x = sym w.1 ∙ here in both)

    pub released_timed : IsTimed h.core.clock x
    released_timed =
        let same : released.block ≡ x = (let both : Some released.block ≡ Some x = sym released.found ∙ released_found in cc) in
        subst (IsTimed h.core.clock) same released.timed

    released_within : Within st.scene.settings (a_block b.0)
    released_within =
        beside_within st opened k h (a_mailbox h.number.0 ∷ []) posted.beside (a_block b.0) (inr (block_listed h.core.share b.0 released.there))

    module _ (k' : Core) (m' : Mailbox) (x' : Block) (e : Entry) (made : IsBlockOrder h.number.0 b.0 h.core k' m m' x x' e) where
      abbrev changes : List Change
      changes = core_becomes h.number.0 k' ∷ mailbox_becomes h.number.0 m' ∷ block_becomes b.0 x' ∷ []

      release_does : DoesOrder (state_after st k.seen) h.number.0 changes e
      release_does = made (state_after st k.seen) (record { core = posted.beside.shows.core; mailbox = posted.mailbox }) released_found

      pub release_order : CarriesOut st k h.number m' e
      release_order =
          carries_out st opened k h (a_mailbox h.number.0 ∷ []) posted.beside (order.Release b) (posted_stands st opened k h m posted (order.Release b) is)
          changes e release_does
          (one_within st (a_mailbox h.number.0) (posted_within st opened k h m posted)) (inl refl)
          looked m' (set_here (state_after st k.seen).mailboxes h.number.0 m m' posted.mailbox)
        where
          looked : (n : Name) → Listed n (a_block b.0 ∷ []) → Listed n (a_mailbox h.number.0 ∷ objects_of h.number.0 h.core.share)
          looked n (inl q) = inr (subst (λ y. Listed y (objects_of h.number.0 h.core.share)) (sym q) (inr (block_listed h.core.share b.0 released.there)))
          looked n (inr l) = absurd l

      module _ (l : Passing D) (t : Turned) (acks : Acknowledges st k l h.number e t) (r : Rowed) (gone : in_row r b.0 ≡ None)
          (others : (n : ℕ) → (n ≡ b.0 → ⊥) → in_row r n ≡ in_row h.row n) where
        share_left : k'.share ≡ share_without b.0 h.core.share
        share_left = ordered_share h.number h.core k' (mailbox_becomes h.number.0 m' ∷ block_becomes b.0 x' ∷ []) e (state_after st k.seen) (order.Release b)
            (posted_stands st opened k h m posted (order.Release b) is) release_does

        release_beside : HoldsBeside st l (record h { core = k'; row = r }) (a_block b.0 ∷ [])
        release_beside =
            beside_acknowledged st opened k l (record h { core = k'; row = r }) changes e t release_does acks (a_block b.0 ∷ [])
            (subst (λ (share : List Member). HoldsJust st k (a_mailbox h.number.0 ∷ a_block b.0 ∷ objects_of h.number.0 share)) (sym share_left)
            (just_alike st k (a_mailbox h.number.0 ∷ objects_of h.number.0 h.core.share)
            (a_mailbox h.number.0 ∷ a_block b.0 ∷ objects_of h.number.0 (share_without b.0 h.core.share)) to from posted.beside.holds))
            (posted_within st opened k h m posted) (one_within st (a_block b.0) released_within) no_block posted.beside.actor
            (shows_fewer (state_after st k.seen) h posted.beside.shows k' m' b.0 x x' released_found r others share_left gone)
          where
            to : (n : Name) → Listed n (a_mailbox h.number.0 ∷ objects_of h.number.0 h.core.share) → Listed n (a_mailbox h.number.0 ∷ a_block b.0 ∷ objects_of h.number.0 (share_without b.0 h.core.share))
            to n (inl q) = inl q
            to n (inr l) = inr (to_rest h.number.0 b.0 h.core.share n l)

            from : (n : Name) → Listed n (a_mailbox h.number.0 ∷ a_block b.0 ∷ objects_of h.number.0 (share_without b.0 h.core.share)) → Listed n (a_mailbox h.number.0 ∷ objects_of h.number.0 h.core.share)
            from n (inl q) = inl q
            from n (inr l) = inr (rest_to h.number.0 b.0 h.core.share released.there n l)

            no_block : Listed (a_mailbox h.number.0) (a_block b.0 ∷ []) → ⊥
            no_block (inl q) = cc
            no_block (inr l) = l

        -- the block is still held, as it came to rest
        pub release_has : Has st l (a_block b.0) (block x')
        release_has =
            beside_has st opened l (record h { core = k'; row = r }) (a_block b.0 ∷ []) release_beside (a_block b.0) (block x') (inl refl) released_within
            (stands_acknowledged st opened k l h changes e t release_does acks (a_block b.0) released_within
            (beside_held st opened k h (a_mailbox h.number.0 ∷ []) posted.beside (a_block b.0) (inr (block_listed h.core.share b.0 released.there)))
            ∙ ap (option_map block) (set_here (state_after st k.seen).blocks b.0 x x' released_found))

        pub release_hand : (p : Passing D) → p ≡ having_put l (number_of st (a_block b.0)) → HoldsCore st p (record h { core = k'; row = r })
        release_hand p put =
            core_of_beside st p (record h { core = k'; row = r })
            (beside_put st opened l (record h { core = k'; row = r }) (a_block b.0) [] release_beside p released_within (λ n w. absurd w)
            (subst (λ (share : List Member). Listed (a_block b.0) (objects_of h.number.0 share) → ⊥) (sym share_left) (left_out h.number.0 b.0 h.core.share)) put)
