-- A block is offered to a core, which adopts it or not.
use Rattle.std.proofs.Common.{◌≡◌, ℕ, ◌<◌, ◌≤◌, true, false, true≢false, List, [], ◌∷◌, ◌++◌, ◌==◌, ◌||◌, Bool, Some, None, refl, sym, ap, ◌∙◌, subst, inl, inr, length, arith}
use Rattle.std.specs.Prelude.{slice_get}
use Rattle.std.specs.Option.{option_map}
use Rattle.std.proofs.Math.Bool.{or-true}
use Rattle.std.proofs.lemmas.Option.{none-some, slice_get_within}
use Rattle.dc_base.specs.declared.actions.Action.TheVariants as action
use Rattle.dc_base.specs.declared.actions.Actor.TheVariants as actor
use Rattle.dc_base.specs.declared.commands.Order.TheVariants as order
use Rattle.dc_base.specs.declared.entries.Entry.{Entry}
use Rattle.dc_base.specs.declared.entries.Reason.{Reason}
use Rattle.dc_base.specs.declared.numbers.BlockNo.{BlockNo}
use Rattle.dc_base.specs.Changes.{Name, Change, a_block, a_mailbox, block, block_becomes, core_becomes, mailbox, mailbox_becomes}
use Rattle.dc_base.specs.Cores.{turn_of}
use Rattle.dc_base.specs.Histories.{Listed}
use Rattle.dc_base.specs.Outcomes.{has as in_share}
use Rattle.dc_base.specs.States.{State, Block, Core, Mailbox, Member}
use Rattle.dc_base.specs.States.{order as ordered}
use Rattle.dc_base.specs.Turns.{looks, not_enabled}
use Rattle.dc_block_sound.proofs.Elements.{is_same, same_is, set_here}
use Rattle.dc_bodies.specs.Ordered.{CanAdopt, IsBlockOrder, IsNoAdoption, DoesOrder, StandsAt}
use Rattle.dc_machine.proofs.Bodies.{none_step}
use Rattle.dc_machine.proofs.OrderFacts.{IsAdoptable, adoptable}
use Rattle.dc_stage.specs.History.{own}
use Rattle.dc_stage.specs.Numbers.{has}
use Rattle.dc_stage.specs.Passes.{having_put}
use Rattle.dc_touch.specs.Within.{Within}
use Rattle.dc_hands.specs.declared.answers.Turned.{Turned}
use Rattle.dc_hands.specs.declared.answers.Turned.TheVariants as turned
use Rattle.dc_hands.specs.declared.hands.CoreHand.{CoreHand}
use Rattle.dc_hands.specs.declared.takes.Busy.{Busy}
use Rattle.dc_hands.specs.Machines.{Staged, Passing, IsOpened, number_of, state_after}
use Rattle.dc_hands.specs.Holding.{Has, Gets, Misses}
use Rattle.dc_hands.specs.Answers.{AnswersTurn, Fails, WasRefused}
use Rattle.dc_hands.specs.Hands.{HoldsCore, HoldsJust, objects_of}
use Rattle.dc_core_turns.specs.Ordering.{Shows, HoldsBeside, HoldsOffered, HoldsPosted, CarriesOut, Acknowledges}
use Rattle.dc_hands.specs.Rows.{IsRow, Rowed, in_row, place_in}
use Rattle.dc_core_turns.proofs.AnswersLater.{answers_put}
use Rattle.dc_core_turns.proofs.Beside.{beside_acknowledged, beside_has, beside_missed, beside_put, beside_sound, beside_taken, beside_within, core_of_beside, no_mailbox_in, within_both}
use Rattle.dc_hands.proofs.HeldHands.{block_listed, listed_of}
use Rattle.dc_hands.proofs.HeldNames.{AreWithin, just_alike, not_held}
use Rattle.dc_core_turns.proofs.OrderCarried.{carries_out, mailbox_there, posted_stands, posted_within}
use Rattle.dc_core_turns.proofs.OrderCores.{ordered_share}
use Rattle.dc_core_turns.proofs.OrderLooks.{order_looks}
use Rattle.dc_core_turns.proofs.OrderShows.{longer_share, shows_more}
use Rattle.dc_core_turns.proofs.OrderedTurns.{one_within}
use Rattle.dc_hands.proofs.RowHolds.{block_there, placed_some}
use Rattle.dc_core_turns.proofs.RowFits.{few_numbers}
use Rattle.dc_hands.proofs.Sounding.{sized_after}

-- a longer share is the block that joined it, and those before
module _ (c : ℕ) (m : Member) (share : List Member) where
  more_to : (n : Name) → Listed n (a_block m.block ∷ objects_of c share) → Listed n (objects_of c (share ++ m ∷ []))
  more_to n (inl q) = subst (λ x. Listed x (objects_of c (share ++ m ∷ []))) (sym q)
      (inr (block_listed (share ++ m ∷ []) m.block (longer_share share m m.block ∙ ap (λ t. t || in_share share m.block) (same_is m.block))))
  more_to n (inr l) = listed_of c share (λ x. Listed x (objects_of c (share ++ m ∷ []))) (inl refl)
      (λ d i. inr (block_listed (share ++ m ∷ []) d (longer_share share m d ∙ (ap (λ t. (m.block == d) || t) i ∙ or-true (m.block == d))))) n l

  to_more : (n : Name) → Listed n (objects_of c (share ++ m ∷ [])) → Listed n (a_block m.block ∷ objects_of c share)
  to_more n l = listed_of c (share ++ m ∷ []) (λ x. Listed x (a_block m.block ∷ objects_of c share)) (inr (inl refl))
      (λ d i. by d (m.block == d) refl (sym (longer_share share m d) ∙ i)) n l
    where
      by : (d : ℕ) (t : Bool) → (m.block == d) ≡ t → (m.block == d) || in_share share d ≡ true → Listed (a_block d) (a_block m.block ∷ objects_of c share)
      by d true q i = inl (sym (ap a_block (is_same m.block d q)))
      by d false q i = inr (inr (block_listed share d (ap (λ t. t || in_share share d) (sym q) ∙ i)))

module _ {D : Type 0} (st : Staged D) (opened : IsOpened st) where
  module _ (k : Passing D) (h : CoreHand D) (m : Mailbox) (posted : HoldsPosted st k h m) (b : BlockNo) (parked : Bool) (is : m ≡ ordered (order.Adopt b parked)) where
    offered : IsAdoptable (state_after st k.seen) h.core b.0 parked
    offered =
        adoptable (state_after st k.seen) (beside_sound st opened k h (a_mailbox h.number.0 ∷ []) posted.beside) h.number.0 h.core posted.beside.shows.core b parked
        (posted.mailbox ∙ ap Some is)

    pub offered_within : Within st.scene.settings (a_block b.0)
    offered_within = subst (λ n. b.0 < n) (sized_after st opened k.seen).blocks (slice_get_within (state_after st k.seen).blocks b.0 offered.block offered.found)

    no_block : Listed (a_block b.0) (a_mailbox h.number.0 ∷ objects_of h.number.0 h.core.share) → ⊥
    no_block (inl q) = cc
    no_block (inr l) = listed_of h.number.0 h.core.share (λ x. x ≡ a_block b.0 → ⊥) (λ q. cc)
        (λ d i q. true≢false (sym i ∙ (ap (in_share h.core.share) (let e : d ≡ b.0 = cc in e) ∙ offered.can.apart))) (a_block b.0) l refl

    -- the block is at rest, so the core does not hold it
    pub offered_free : has (number_of st (a_block b.0)) k.holds ≡ false
    offered_free =
        not_held st k (a_block b.0) (a_mailbox h.number.0 ∷ objects_of h.number.0 h.core.share) posted.beside.holds offered_within
        (within_both st (a_mailbox h.number.0 ∷ []) (objects_of h.number.0 h.core.share)
        (one_within st (a_mailbox h.number.0) (posted_within st opened k h m posted))
        (beside_within st opened k h (a_mailbox h.number.0 ∷ []) posted.beside))
        no_block

    -- the block was taken
    pub offered_taken : (l : Passing D) (x : Block) → Gets st k l (a_block b.0) (block x) → HoldsOffered st l h m b.0 x
    offered_taken l x gets = record {
      beside = beside_taken st opened k h (a_mailbox h.number.0 ∷ []) posted.beside l (a_block b.0) (block x) gets;
      mailbox = mailbox_there (slice_get (state_after st l.seen).mailboxes h.number.0) m
          (gets.on.kept (a_mailbox h.number.0) (posted_within st opened k h m posted) mine ∙ ap (option_map mailbox) posted.mailbox);
      block = block_there (slice_get (state_after st l.seen).blocks b.0) x gets.stands;
    }
      where
        mine : has (number_of st (a_mailbox h.number.0)) k.holds ≡ true
        mine = (beside_has st opened k h (a_mailbox h.number.0 ∷ []) posted.beside (a_mailbox h.number.0) (mailbox m) (inl refl)
            (posted_within st opened k h m posted) (ap (option_map mailbox) posted.mailbox)).held

    module _ (l : Passing D) (busy : Busy) (misses : Misses st k l (a_block b.0) busy) where
      -- another actor had the block, and the mailbox is still held
      pub missed_has : Has st l (a_mailbox h.number.0) (mailbox m)
      missed_has =
          let beside = beside_missed st opened k h (a_mailbox h.number.0 ∷ []) posted.beside l (a_block b.0) busy misses in
          beside_has st opened l h (a_mailbox h.number.0 ∷ []) beside (a_mailbox h.number.0) (mailbox m) (inl refl) (posted_within st opened k h m posted)
          (subst (λ (q : Passing D). option_map mailbox (slice_get (state_after st q.seen).mailboxes h.number.0) ≡ Some (mailbox m)) (sym misses.same)
          (ap (option_map mailbox) posted.mailbox))

      -- the mailbox goes back
      module _ (p : Passing D) (put : p ≡ having_put l (number_of st (a_mailbox h.number.0))) where
        pub missed_hand : HoldsCore st p h
        missed_hand =
            let beside = beside_missed st opened k h (a_mailbox h.number.0 ∷ []) posted.beside l (a_block b.0) busy misses in
            core_of_beside st p h
            (beside_put st opened l h (a_mailbox h.number.0) [] beside p (posted_within st opened k h m posted) (λ n w. absurd w)
            (no_mailbox_in h.number.0 h.number.0 h.core.share) put)

        pub missed_answers : AnswersTurn st k p 0 (actor.Core h.number) action.Order (turned.Busy busy)
        missed_answers =
            answers_put st k l p (number_of st (a_mailbox h.number.0)) 0 (actor.Core h.number) action.Order (turned.Busy busy) put refused
          where
            looked : Listed (a_block b.0) (looks (state_after st k.seen) (turn_of (λ t. 0) (actor.Core h.number) action.Order))
            looked = subst (Listed (a_block b.0))
                (sym (order_looks (state_after st k.seen) h.number h.core (order.Adopt b parked) (posted_stands st opened k h m posted (order.Adopt b parked) is)))
                (inr (inr (inl refl)))

            refused : WasRefused st k l 0 (actor.Core h.number) action.Order busy
            refused = record {
              others = ap (λ (q : Passing D). own k.actor q.seen) misses.same;
              refused = ap (λ (q : Passing D). q.refused) misses.same;
              other = misses.other;
              looked = (
                a_block b.0,
                misses.number,
                subst (λ (q : Passing D). Listed (a_block b.0) (looks (state_after st q.seen) (turn_of (λ t. 0) (actor.Core h.number) action.Order))) (sym misses.same) looked,
              );
            }

  module _ (k : Passing D) (h : CoreHand D) (m : Mailbox) (b : BlockNo) (x : Block) (offers : HoldsOffered st k h m b.0 x) (parked : Bool)
      (is : m ≡ ordered (order.Adopt b parked)) where
    offer : IsAdoptable (state_after st k.seen) h.core b.0 parked
    offer =
        adoptable (state_after st k.seen) (beside_sound st opened k h (a_block b.0 ∷ a_mailbox h.number.0 ∷ []) offers.beside) h.number.0 h.core
        offers.beside.shows.core b parked (offers.mailbox ∙ ap Some is)

    pub offer_can : CanAdopt h.core b.0 parked x
    offer_can =
        let same : offer.block ≡ x = (let both : Some offer.block ≡ Some x = sym offer.found ∙ offers.block in cc) in
        subst (CanAdopt h.core b.0 parked) same offer.can

    pub offer_apart : in_row h.row b.0 ≡ None
    offer_apart = offers.beside.shows.others b.0 offer_can.apart

    offer_within : Within st.scene.settings (a_block b.0)
    offer_within = subst (λ n. b.0 < n) (sized_after st opened k.seen).blocks (slice_get_within (state_after st k.seen).blocks b.0 x offers.block)

    letter_within : Within st.scene.settings (a_mailbox h.number.0)
    letter_within =
        subst (λ n. h.number.0 < n) (sized_after st opened k.seen).mailboxes (slice_get_within (state_after st k.seen).mailboxes h.number.0 m offers.mailbox)

    both_within : AreWithin st (a_block b.0 ∷ a_mailbox h.number.0 ∷ [])
    both_within n (inl q) = subst (Within st.scene.settings) (sym q) offer_within
    both_within n (inr l) = one_within st (a_mailbox h.number.0) letter_within n l

    stands : StandsAt (state_after st k.seen) h.number.0 h.core m
    stands = record { core = offers.beside.shows.core; mailbox = offers.mailbox }

    module _ (k' : Core) (m' : Mailbox) (x' : Block) where
      module _ (e : Entry) (made : IsBlockOrder h.number.0 b.0 h.core k' m m' x x' e) where
        abbrev changes : List Change
        changes = core_becomes h.number.0 k' ∷ mailbox_becomes h.number.0 m' ∷ block_becomes b.0 x' ∷ []

        adopt_does : DoesOrder (state_after st k.seen) h.number.0 changes e
        adopt_does = made (state_after st k.seen) stands offers.block

        pub adopt_order : CarriesOut st k h.number m' e
        adopt_order =
            carries_out st opened k h (a_block b.0 ∷ a_mailbox h.number.0 ∷ []) offers.beside (order.Adopt b parked)
            (record { core = offers.beside.shows.core; mailbox = offers.mailbox ∙ ap Some is })
            changes e adopt_does both_within (inr (inl refl)) looked m' (set_here (state_after st k.seen).mailboxes h.number.0 m m' offers.mailbox)
          where
            looked : (n : Name) → Listed n (a_block b.0 ∷ []) → Listed n ((a_block b.0 ∷ a_mailbox h.number.0 ∷ []) ++ objects_of h.number.0 h.core.share)
            looked n (inl q) = inl q
            looked n (inr l) = absurd l

        pub adopt_hand : (l : Passing D) (t : Turned) → Acknowledges st k l h.number e t → (r : Rowed) → in_row r b.0 ≡ Some x'
            → ((n : ℕ) → (n ≡ b.0 → ⊥) → in_row r n ≡ in_row h.row n) → HoldsCore st l (record h { core = k'; row = r })
        adopt_hand l t acks r here others =
            core_of_beside st l (record h { core = k'; row = r })
            (beside_acknowledged st opened k l (record h { core = k'; row = r }) changes e t adopt_does acks []
            (subst (λ (share : List Member). HoldsJust st k (a_mailbox h.number.0 ∷ objects_of h.number.0 share)) (sym joined)
            (just_alike st k ((a_block b.0 ∷ a_mailbox h.number.0 ∷ []) ++ objects_of h.number.0 h.core.share)
            (a_mailbox h.number.0 ∷ objects_of h.number.0 (h.core.share ++ new ∷ [])) to from offers.beside.holds))
            letter_within (λ n w. absurd w) (λ w. w) offers.beside.actor
            (shows_more (state_after st k.seen) h offers.beside.shows k' m' b.0 x x' offers.block r others parked joined here))
          where
            new : Member
            new = record { block = b.0; parked = parked }

            joined : k'.share ≡ h.core.share ++ record { block = b.0; parked = parked } ∷ []
            joined = ordered_share h.number h.core k' (mailbox_becomes h.number.0 m' ∷ block_becomes b.0 x' ∷ []) e (state_after st k.seen) (order.Adopt b parked)
                (record { core = offers.beside.shows.core; mailbox = offers.mailbox ∙ ap Some is }) adopt_does

            to : (n : Name) → Listed n ((a_block b.0 ∷ a_mailbox h.number.0 ∷ []) ++ objects_of h.number.0 h.core.share)
                → Listed n (a_mailbox h.number.0 ∷ objects_of h.number.0 (h.core.share ++ record { block = b.0; parked = parked } ∷ []))
            to n (inl q) = inr (more_to h.number.0 (record { block = b.0; parked = parked }) h.core.share n (inl q))
            to n (inr (inl q)) = inl q
            to n (inr (inr w)) = inr (more_to h.number.0 (record { block = b.0; parked = parked }) h.core.share n (inr w))

            from : (n : Name) → Listed n (a_mailbox h.number.0 ∷ objects_of h.number.0 (h.core.share ++ record { block = b.0; parked = parked } ∷ []))
                → Listed n ((a_block b.0 ∷ a_mailbox h.number.0 ∷ []) ++ objects_of h.number.0 h.core.share)
            from n (inl q) = inr (inl q)
            from n (inr w) = turned_round (to_more h.number.0 (record { block = b.0; parked = parked }) h.core.share n w)
              where
                turned_round : Listed n (a_block b.0 ∷ objects_of h.number.0 h.core.share) → Listed n ((a_block b.0 ∷ a_mailbox h.number.0 ∷ []) ++ objects_of h.number.0 h.core.share)
                turned_round (inl q) = inl q
                turned_round (inr v) = inr (inr v)

      module _ (why : Reason) (no : IsNoAdoption h.number.0 b.0 h.core k' m m' x x' why) where
        -- the block and the mailbox go back as they were
        pub no_block_has : Has st k (a_block b.0) (block x')
        no_block_has = subst (λ y. Has st k (a_block b.0) (block y)) (sym no.block)
            (beside_has st opened k h (a_block b.0 ∷ a_mailbox h.number.0 ∷ []) offers.beside (a_block b.0) (block x) (inl refl) offer_within (ap (option_map block) offers.block))

        module _ (l : Passing D) (put : l ≡ having_put k (number_of st (a_block b.0))) where
          no_beside : HoldsBeside st l h (a_mailbox h.number.0 ∷ [])
          no_beside =
              beside_put st opened k h (a_block b.0) (a_mailbox h.number.0 ∷ []) offers.beside l offer_within
              (one_within st (a_mailbox h.number.0) letter_within) out put
            where
              out : Listed (a_block b.0) (a_mailbox h.number.0 ∷ objects_of h.number.0 h.core.share) → ⊥
              out (inl q) = cc
              out (inr w) = listed_of h.number.0 h.core.share (λ y. y ≡ a_block b.0 → ⊥) (λ q. cc)
                  (λ d i q. true≢false (sym i ∙ (ap (in_share h.core.share) (let e : d ≡ b.0 = cc in e) ∙ offer_can.apart))) (a_block b.0) w refl

          pub no_mailbox_has : Has st l (a_mailbox h.number.0) (mailbox m')
          no_mailbox_has = subst (λ y. Has st l (a_mailbox h.number.0) (mailbox y)) (sym no.mailbox)
              (beside_has st opened l h (a_mailbox h.number.0 ∷ []) no_beside (a_mailbox h.number.0) (mailbox m) (inl refl) letter_within
              (subst (λ (q : Passing D). option_map mailbox (slice_get (state_after st q.seen).mailboxes h.number.0) ≡ Some (mailbox m)) (sym put)
              (ap (option_map mailbox) offers.mailbox)))

          module _ (p : Passing D) (back : p ≡ having_put l (number_of st (a_mailbox h.number.0))) where
            pub no_hand : HoldsCore st p (record h { core = k' })
            no_hand = subst (λ (c : Core). HoldsCore st p (record h { core = c })) (sym no.core)
                (core_of_beside st p h
                (beside_put st opened l h (a_mailbox h.number.0) [] no_beside p letter_within (λ n w. absurd w)
                (no_mailbox_in h.number.0 h.number.0 h.core.share) back))

            pub no_same : record h { core = k' } ≡ h
            no_same = ap (λ (c : Core). record h { core = c }) no.core

            pub no_answers : AnswersTurn st k p 0 (actor.Core h.number) action.Order (turned.NotEnabled why)
            no_answers =
                answers_put st k l p (number_of st (a_mailbox h.number.0)) 0 (actor.Core h.number) action.Order (turned.NotEnabled why) back
                (answers_put st k k l (number_of st (a_block b.0)) 0 (actor.Core h.number) action.Order (turned.NotEnabled why) put fails)
              where
                fails : Fails st k k 0 (actor.Core h.number) action.Order (not_enabled why)
                fails = record { others = refl; refused = refl; turn = none_step (state_after st k.seen) (actor.Core h.number) action.Order why (no.turn (state_after st k.seen) stands offers.block) 0 }

-- a hand has room for one block more
pub room_for_one : {D : Type 0} (s : State) (h : CoreHand D) → Shows s h → IsRow h.row → length h.core.share ≤ 9 → length h.row.numbers < 16
room_for_one s h shows row few =
    let most = few_numbers h.row.numbers h.core.share row.once (λ b near. among b near (in_share h.core.share b) refl) in
    omega (arith, most, few)
  where
    among : (b : ℕ) → place_in h.row.numbers b < length h.row.numbers → (t : Bool) → in_share h.core.share b ≡ t → in_share h.core.share b ≡ true
    among b near true e = e
    among b near false e = let x = placed_some h.row row b near in absurd (none-some x.0 (sym (shows.others b e) ∙ x.1))
