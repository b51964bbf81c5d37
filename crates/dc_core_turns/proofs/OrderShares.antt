-- What stands after the turn of an order that changes each block of the share.
use Rattle.std.proofs.Common.{◌≡◌, ℕ, ◌≤◌, Bool, true, false, true≢false, List, [], ◌∷◌, ◌++◌, Some, refl, sym, ap, ◌∙◌, subst, inl, inr, map}
use Rattle.std.specs.Prelude.{slice_get}
use Rattle.std.specs.Option.{option_map}
use Rattle.std.proofs.lemmas.Option.{none-some}
use Rattle.dc_base.specs.declared.commands.Order.{Order}
use Rattle.dc_base.specs.declared.entries.Entry.{Entry}
use Rattle.dc_base.specs.declared.numbers.BlockNo.{BlockNo}
use Rattle.dc_base.specs.Changes.{Name, Change, a_block, a_core, a_mailbox, apply, block, core, core_becomes, mailbox_becomes}
use Rattle.dc_base.specs.Histories.{Listed}
use Rattle.dc_base.specs.Outcomes.{share_blocks}
use Rattle.dc_base.specs.Outcomes.{has as in_share}
use Rattle.dc_base.specs.Placed.{count_in}
use Rattle.dc_base.specs.States.{State, Block, Core, Mailbox, Member}
use Rattle.dc_base.specs.States.{order as ordered}
use Rattle.dc_block_sound.proofs.Elements.{set_here}
use Rattle.dc_bodies.specs.Handing.{AreChanged, AreTimed}
use Rattle.dc_bodies.specs.Ordered.{IsShareOrder, DoesOrder, become_all}
use Rattle.dc_machine.proofs.OrderFacts.{all_timed, lists_once}
use Rattle.dc_touch.proofs.Covers.{split_listed}
use Rattle.dc_hands.specs.declared.answers.Turned.{Turned}
use Rattle.dc_hands.specs.declared.hands.CoreHand.{CoreHand}
use Rattle.dc_hands.specs.Machines.{Staged, Passing, IsOpened, state_after}
use Rattle.dc_hands.specs.Holding.{Has}
use Rattle.dc_hands.specs.Gathering.{HoldsRow, row_blocks}
use Rattle.dc_hands.specs.Hands.{HoldsCore, HoldsJust, objects_of}
use Rattle.dc_core_turns.specs.Ordering.{Shows, HoldsPosted, CarriesOut, Acknowledges}
use Rattle.dc_hands.specs.Rows.{IsRow, Rowed, in_row, no_row}
use Rattle.dc_core_turns.proofs.BecomeAll.{becomes_seen, cores_stay, mailboxes_stay}
use Rattle.dc_core_turns.proofs.Beside.{beside_acknowledged, beside_held, beside_sound, beside_within, core_of_beside, just_acknowledged, no_mailbox_in, stands_acknowledged}
use Rattle.dc_hands.proofs.HeldHands.{block_listed, listed_of}
use Rattle.dc_hands.proofs.HeldNames.{just_alike, just_held}
use Rattle.dc_core_turns.proofs.OrderCarried.{carries_out, posted_stands, posted_within}
use Rattle.dc_core_turns.proofs.OrderCores.{ordered_share, share_after}
use Rattle.dc_core_turns.proofs.OrderLooks.{order_blocks}
use Rattle.dc_core_turns.proofs.OrderedTurns.{one_within}
use Rattle.dc_hands.proofs.RowHolds.{core_there, placed_some}
use Rattle.dc_hands.proofs.Rowing.{some_placed}
use Rattle.dc_hands.proofs.ShareRows.{placed_listed, listed_placed}

-- the blocks of a row are those of the share that the hand shows
module _ {D : Type 0} (s : State) (h : CoreHand D) (shows : Shows s h) (row : IsRow h.row) where
  in_it : (b : ℕ) (x : Block) → in_row h.row b ≡ Some x → (t : Bool) → in_share h.core.share b ≡ t → in_share h.core.share b ≡ true
  in_it b x e true i = i
  in_it b x e false i = absurd (none-some x (sym (shows.others b i) ∙ e))

  pub row_shared : (b : ℕ) (x : Block) → in_row h.row b ≡ Some x → in_share h.core.share b ≡ true
  row_shared b x e = in_it b x e (in_share h.core.share b) refl

  pub share_to_row : (n : Name) → Listed n (objects_of h.number.0 h.core.share) → Listed n (a_core h.number.0 ∷ map a_block (row_blocks h.row))
  share_to_row n l = listed_of h.number.0 h.core.share (λ m. Listed m (a_core h.number.0 ∷ map a_block (row_blocks h.row))) (inl refl)
      (λ b i. let y = shows.blocks b i in inr (placed_listed h.row.numbers b (some_placed h.row row b y.0 y.1))) n l

  pub row_to_share : (n : Name) → Listed n (a_core h.number.0 ∷ map a_block (row_blocks h.row)) → Listed n (objects_of h.number.0 h.core.share)
  row_to_share n (inl e) = inl e
  row_to_share n (inr l) =
      let p = listed_placed h.row.numbers n l in
      let x = placed_some h.row row p.0 p.2 in
      inr (subst (λ (m : Name). Listed m (map a_block (share_blocks h.core.share))) (sym p.1) (block_listed h.core.share p.0 (row_shared p.0 x.0 x.1)))

module _ {D : Type 0} (st : Staged D) (opened : IsOpened st) (k : Passing D) (h : CoreHand D) (m : Mailbox) (posted : HoldsPosted st k h m) where
  -- the blocks of the share are there, within bounds
  pub share_timed : AreTimed h.core.clock h.core.share (in_row h.row)
  share_timed b i =
      let shown = posted.beside.shows.blocks b i in
      let timed = all_timed (state_after st k.seen) (beside_sound st opened k h (a_mailbox h.number.0 ∷ []) posted.beside) h.number.0 h.core posted.beside.shows.core b i in
      (timed.0, shown.1 ∙ (sym shown.2 ∙ timed.1), timed.2)

  pub share_once : (b : ℕ) → count_in h.core.share b ≤ 1
  share_once = lists_once (state_after st k.seen) (beside_sound st opened k h (a_mailbox h.number.0 ∷ []) posted.beside) h.number.0 h.core posted.beside.shows.core

  module _ (o : Order) (is : m ≡ ordered o) (looks : order_blocks h.core o ≡ map a_block (share_blocks h.core.share) ++ []) (k' : Core) (m' : Mailbox) (r : Rowed)
      (f : Block → Block) (changed : AreChanged f h.core.share (in_row h.row) (in_row r)) (e : Entry)
      (made : IsShareOrder h.number.0 h.core k' m m' (in_row h.row) (in_row r) e) where
    abbrev changes : List Change
    changes = core_becomes h.number.0 k' ∷ mailbox_becomes h.number.0 m' ∷ become_all (in_row r) h.core.share

    share_does : DoesOrder (state_after st k.seen) h.number.0 changes e
    share_does = made (state_after st k.seen) (record { core = posted.beside.shows.core; mailbox = posted.mailbox })
        (λ b i. let x = posted.beside.shows.blocks b i in x.2 ∙ sym x.1)

    abbrev halfway : State
    halfway = apply (state_after st k.seen) (core_becomes h.number.0 k' ∷ mailbox_becomes h.number.0 m' ∷ [])

    core_after : slice_get (apply (state_after st k.seen) changes).cores h.number.0 ≡ Some k'
    core_after =
        ap (λ cs. slice_get cs h.number.0) (cores_stay (in_row r) h.core.share halfway)
        ∙ set_here (state_after st k.seen).cores h.number.0 h.core k' posted.beside.shows.core

    mailbox_after : slice_get (apply (state_after st k.seen) changes).mailboxes h.number.0 ≡ Some m'
    mailbox_after =
        ap (λ ms. slice_get ms h.number.0) (mailboxes_stay (in_row r) h.core.share halfway)
        ∙ set_here (state_after st k.seen).mailboxes h.number.0 m m' posted.mailbox

    -- a block of the share stands afterwards as in the row
    block_after : (b : ℕ) → in_share h.core.share b ≡ true → (x : Block) × (in_row r b ≡ Some x) × (slice_get (apply (state_after st k.seen) changes).blocks b ≡ Some x)
    block_after b i =
        let x = posted.beside.shows.blocks b i in
        let now : in_row r b ≡ Some (f x.0) = changed.here b i ∙ ap (option_map f) x.1 in
        (f x.0, now, becomes_seen (in_row r) b (f x.0) now h.core.share halfway x.0 x.2 i)

    pub share_order : CarriesOut st k h.number m' e
    share_order =
        carries_out st opened k h (a_mailbox h.number.0 ∷ []) posted.beside o (posted_stands st opened k h m posted o is)
        changes e share_does (one_within st (a_mailbox h.number.0) (posted_within st opened k h m posted)) (inl refl)
        (λ n l. inr (inr (unended n (subst (Listed n) looks l))))
        m' mailbox_after
      where
        unended : (n : Name) → Listed n (map a_block (share_blocks h.core.share) ++ []) → Listed n (map a_block (share_blocks h.core.share))
        unended n l = elim (split_listed n (map a_block (share_blocks h.core.share)) [] l) [ inl x ↦ x | inr x ↦ absurd x ]

    share_now : k'.share ≡ share_after h.core.share o
    share_now = ordered_share h.number h.core k' (mailbox_becomes h.number.0 m' ∷ become_all (in_row r) h.core.share) e (state_after st k.seen) o
        (posted_stands st opened k h m posted o is) share_does

    module _ (l : Passing D) (t : Turned) (acks : Acknowledges st k l h.number e t) where
      -- the share stays
      pub share_kept_hand : share_after h.core.share o ≡ h.core.share → HoldsCore st l (record h { core = k'; row = r })
      share_kept_hand kept =
          let same : k'.share ≡ h.core.share = share_now ∙ kept in
          core_of_beside st l (record h { core = k'; row = r })
          (beside_acknowledged st opened k l (record h { core = k'; row = r }) changes e t share_does acks []
          (subst (λ (share : List Member). HoldsJust st k (a_mailbox h.number.0 ∷ objects_of h.number.0 share)) (sym same) posted.beside.holds)
          (posted_within st opened k h m posted) (λ n w. absurd w) (λ w. w) posted.beside.actor
          (record {
            core = core_after;
            blocks = λ b i. block_after b (ap (λ share. in_share share b) (sym same) ∙ i);
            others = λ b i. let out = ap (λ share. in_share share b) (sym same) ∙ i in changed.others b out ∙ posted.beside.shows.others b out;
          }))

      -- the core is off, and its blocks are still held, as they came to rest
      module _ (row : IsRow h.row) (numbers : r.numbers ≡ h.row.numbers) where
        stopped_just : HoldsJust st l (objects_of h.number.0 h.core.share)
        stopped_just =
            just_acknowledged st opened k l h changes e t share_does acks (objects_of h.number.0 h.core.share) posted.beside.holds
            (posted_within st opened k h m posted) (beside_within st opened k h (a_mailbox h.number.0 ∷ []) posted.beside)
            (no_mailbox_in h.number.0 h.number.0 h.core.share)

        stopped_core : Has st l (a_core h.number.0) (core k')
        stopped_core =
            let within = beside_within st opened k h (a_mailbox h.number.0 ∷ []) posted.beside (a_core h.number.0) (inl refl) in
            record {
              within = within;
              held = just_held st l (a_core h.number.0) (objects_of h.number.0 h.core.share) stopped_just (inl refl);
              stands =
                  stands_acknowledged st opened k l h changes e t share_does acks (a_core h.number.0) within
                  (beside_held st opened k h (a_mailbox h.number.0 ∷ []) posted.beside (a_core h.number.0) (inl refl))
                  ∙ ap (option_map core) core_after;
            }

        stopped_block : (b : ℕ) (x : Block) → in_row r b ≡ Some x → (i : Bool) → in_share h.core.share b ≡ i → Has st l (a_block b) (block x)
        stopped_block b x at false i = absurd (none-some x (sym (changed.others b i ∙ posted.beside.shows.others b i) ∙ at))
        stopped_block b x at true i =
            let listed : Listed (a_block b) (objects_of h.number.0 h.core.share) = inr (block_listed h.core.share b i) in
            let within = beside_within st opened k h (a_mailbox h.number.0 ∷ []) posted.beside (a_block b) listed in
            let y = block_after b i in
            let same : Some y.0 ≡ Some x = sym y.1 ∙ at in
            record {
              within = within;
              held = just_held st l (a_block b) (objects_of h.number.0 h.core.share) stopped_just listed;
              stands =
                  stands_acknowledged st opened k l h changes e t share_does acks (a_block b) within
                  (beside_held st opened k h (a_mailbox h.number.0 ∷ []) posted.beside (a_block b) listed)
                  ∙ ap (option_map block) (y.2 ∙ same);
            }

        pub stopped_row : HoldsRow st l (record h { core = k'; row = r })
        stopped_row = record {
          actor = acks.on.actor ∙ posted.beside.actor;
          lawful = acks.made.lawful;
          core = stopped_core;
          blocks = λ b x at. stopped_block b x at (in_share h.core.share b) refl;
          holds = subst (λ ns. HoldsJust st l (a_core h.number.0 ∷ map a_block (map (λ (n : BlockNo). n.0) ns))) (sym numbers)
              (just_alike st l (objects_of h.number.0 h.core.share) (a_core h.number.0 ∷ map a_block (row_blocks h.row))
              (share_to_row (state_after st k.seen) h posted.beside.shows row) (row_to_share (state_after st k.seen) h posted.beside.shows row) stopped_just);
        }

      -- the blocks went back
      pub stopped_hand : share_after h.core.share o ≡ [] → (p : Passing D) → HoldsRow st p (record h { core = k'; row = no_row })
          → HoldsCore st p (record h { core = k'; row = no_row })
      stopped_hand gone p held =
          let none : k'.share ≡ [] = share_now ∙ gone in
          record {
            actor = held.actor;
            lawful = held.lawful;
            core = core_there (slice_get (state_after st p.seen).cores h.number.0) k' held.core.stands;
            blocks = λ b i. absurd (true≢false (sym i ∙ ap (λ share. in_share share b) none));
            others = λ b i. refl;
            holds = subst (λ (share : List Member). HoldsJust st p (objects_of h.number.0 share)) (sym none) held.holds;
          }
