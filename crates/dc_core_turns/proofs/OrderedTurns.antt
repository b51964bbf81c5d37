-- What stands after the turn of an order that touches the core and its mailbox alone.
use Rattle.std.proofs.Common.{◌≡◌, List, [], ◌∷◌, refl, sym, subst, inl, inr}
use Rattle.dc_base.specs.declared.commands.Order.TheVariants as order
use Rattle.dc_base.specs.declared.entries.Entry.{Entry}
use Rattle.dc_base.specs.declared.kernels.Version.{Version}
use Rattle.dc_base.specs.Changes.{Name, a_mailbox, core_becomes, mailbox_becomes}
use Rattle.dc_base.specs.States.{Core, Mailbox, Member}
use Rattle.dc_base.specs.States.{order as ordered}
use Rattle.dc_block_sound.proofs.Elements.{set_here}
use Rattle.dc_bodies.specs.Ordered.{IsOrder, DoesOrder}
use Rattle.dc_touch.specs.Within.{Within}
use Rattle.dc_hands.specs.declared.answers.Turned.{Turned}
use Rattle.dc_hands.specs.declared.hands.CoreHand.{CoreHand}
use Rattle.dc_hands.specs.Machines.{Staged, Passing, IsOpened, state_after}
use Rattle.dc_hands.specs.Hands.{HoldsCore, HoldsJust, objects_of}
use Rattle.dc_core_turns.specs.Ordering.{HoldsPosted, CarriesOut, Acknowledges}
use Rattle.dc_core_turns.proofs.Beside.{beside_acknowledged, core_of_beside}
use Rattle.dc_hands.proofs.HeldNames.{AreWithin}
use Rattle.dc_core_turns.proofs.OrderCarried.{carries_out, posted_stands, posted_within}
use Rattle.dc_core_turns.proofs.OrderCores.{ordered_share}
use Rattle.dc_core_turns.proofs.OrderShows.{shows_core}

-- a mailbox that is held beside the core is one of the machine
pub one_within : {D : Type 0} (st : Staged D) (n : Name) → Within st.scene.settings n → AreWithin st (n ∷ [])
one_within st n within m (inl e) = subst (Within st.scene.settings) (sym e) within
one_within st n within m (inr l) = absurd l

module _ {D : Type 0} (st : Staged D) (opened : IsOpened st) (k : Passing D) (h : CoreHand D) (m : Mailbox) (posted : HoldsPosted st k h m)
    (v : Version) (is : m ≡ ordered (order.Start v)) (k' : Core) (m' : Mailbox) (e : Entry) (made : IsOrder h.number.0 h.core k' m m' e) where
  started_does : DoesOrder (state_after st k.seen) h.number.0 (core_becomes h.number.0 k' ∷ mailbox_becomes h.number.0 m' ∷ []) e
  started_does = made (state_after st k.seen) (record { core = posted.beside.shows.core; mailbox = posted.mailbox })

  pub started_order : CarriesOut st k h.number m' e
  started_order =
      carries_out st opened k h (a_mailbox h.number.0 ∷ []) posted.beside (order.Start v) (posted_stands st opened k h m posted (order.Start v) is)
      (core_becomes h.number.0 k' ∷ mailbox_becomes h.number.0 m' ∷ []) e started_does
      (one_within st (a_mailbox h.number.0) (posted_within st opened k h m posted)) (inl refl) (λ n l. absurd l)
      m' (set_here (state_after st k.seen).mailboxes h.number.0 m m' posted.mailbox)

  pub started_hand : (l : Passing D) (r : Turned) → Acknowledges st k l h.number e r → HoldsCore st l (record h { core = k' })
  started_hand l r acks =
      let same : k'.share ≡ h.core.share = ordered_share h.number h.core k' (mailbox_becomes h.number.0 m' ∷ []) e (state_after st k.seen) (order.Start v)
      (posted_stands st opened k h m posted (order.Start v) is) started_does in
      core_of_beside st l (record h { core = k' })
      (beside_acknowledged st opened k l (record h { core = k' }) (core_becomes h.number.0 k' ∷ mailbox_becomes h.number.0 m' ∷ []) e r started_does acks []
      (subst (λ (share : List Member). HoldsJust st k (a_mailbox h.number.0 ∷ objects_of h.number.0 share)) (sym same) posted.beside.holds)
      (posted_within st opened k h m posted) (λ n l. absurd l) (λ l. l) posted.beside.actor
      (shows_core (state_after st k.seen) h posted.beside.shows k' m' same))
