-- A wake of a core in hand, with the channel taken before it and put back after it.
use Rattle.std.proofs.Common.{◌≡◌, ◌<◌, true, false, List, [], ◌∷◌, Some, None, refl, sym, ap, ◌∙◌, subst, inl, inr}
use Rattle.std.specs.Prelude.{slice_get}
use Rattle.dc_base.specs.declared.actions.Action.TheVariants as action
use Rattle.dc_base.specs.declared.actions.Actor.TheVariants as actor
use Rattle.dc_base.specs.declared.entries.Reason.TheVariants as reason
use Rattle.dc_base.specs.declared.numbers.BlockNo.{BlockNo}
use Rattle.dc_base.specs.declared.numbers.ChanNo.{ChanNo}
use Rattle.dc_base.specs.declared.numbers.DispNo.{DispNo}
use Rattle.dc_base.specs.Changes.{Name, a_core, a_channel, channel}
use Rattle.dc_base.specs.Channels.{Ring}
use Rattle.dc_base.specs.Cores.{turn_of}
use Rattle.dc_base.specs.Histories.{Listed}
use Rattle.dc_base.specs.KeptByBlocks.{HasShape}
use Rattle.dc_base.specs.Outcomes.{has as in_share}
use Rattle.dc_base.specs.States.{State, Block}
use Rattle.dc_base.specs.Turns.{looks}
use Rattle.dc_bodies.proofs.WakeTurns.{is_here, not_here}
use Rattle.dc_bodies.proofs.Wakings.{not_waiting, still_waits, waiting, woken}
use Rattle.dc_bodies.specs.declared.wakes.ChannelWait.{ChannelWait}
use Rattle.dc_bodies.specs.Stops.{stopped}
use Rattle.dc_bodies.specs.Waits.{channel_of, channel_wait, goes_on}
use Rattle.dc_machine.proofs.Sounds.{shape, waits_there}
use Rattle.dc_machine.proofs.Stops.{core_acts}
use Rattle.dc_stage.specs.Numbers.{has}
use Rattle.dc_stage.specs.Passes.{having_put}
use Rattle.dc_hands.specs.declared.answers.Turned.{Turned}
use Rattle.dc_hands.specs.declared.answers.Turned.TheVariants as turned
use Rattle.dc_hands.specs.declared.hands.CoreHand.{CoreHand}
use Rattle.dc_hands.specs.declared.takes.Busy.{Busy}
use Rattle.dc_core_turns.specs.Beside.{HoldsBeside}
use Rattle.dc_hands.specs.Holding.{Has, Gets, Misses}
use Rattle.dc_hands.specs.Machines.{Staged, Passing, IsOpened, state_after, number_of}
use Rattle.dc_hands.specs.Rows.{in_row}
use Rattle.dc_core_turns.specs.Turning.{TakesTurn}
use Rattle.dc_core_turns.proofs.ActionLooks.{core_looks, wake_looks}
use Rattle.dc_core_turns.proofs.BesideHands.{beside_taken, hand_sound, just_hand}
use Rattle.dc_core_turns.proofs.HandTurns.{in_machine}
use Rattle.dc_hands.proofs.HeldHands.{none_beyond}
use Rattle.dc_hands.proofs.Seeing.{has_taken}
use Rattle.dc_hands.proofs.Sounding.{sized_after}
use Rattle.dc_core_turns.proofs.TurnParts.{takes_with}
use Rattle.dc_core_turns.proofs.VainTurns.{takes_busy, takes_none}
use Rattle.dc_core_turns.proofs.WakeMade.{channel_at}

module _ {D : Type 0} (st : Staged D) (opened : IsOpened st) (k : Passing D) (h : CoreHand D) (ns : List Name) (holds : HoldsBeside st k h ns) (b : BlockNo) (d : DispNo)
    (acts : stopped h.core ≡ None) where
  abbrev now : State
  now = state_after st k.seen

  -- the core does not have the block
  pub wake_elsewhere : in_share h.core.share b.0 ≡ false → TakesTurn st k k h h ns (action.Wake b d) (turned.NotEnabled (reason.NotHere b))
  wake_elsewhere out =
      takes_none st k h ns holds (action.Wake b d) (reason.NotHere b)
      (core_acts now h.number (action.Wake b d) h.core holds.stands.core ∙ not_here now h.number.0 h.core b.0 d.0 acts out)

  module _ (here : in_share h.core.share b.0 ≡ true) where
    pub wake_shape : (x : Block) × (in_row h.row b.0 ≡ Some x) × HasShape x.control
    wake_shape = let x = holds.stands.blocks b.0 here in (x.0, x.1, shape now b.0 x.0 (hand_sound st opened k h ns holds) x.2)

    module _ (x : Block) (there : in_row h.row b.0 ≡ Some x) where
      found : slice_get now.blocks b.0 ≡ Some x
      found = in_machine h now holds.stands b.0 x here there

      -- the dispatcher waits on no channel
      pub wake_none : channel_wait (slice_get x.control.states d.0) ≡ None → TakesTurn st k k h h ns (action.Wake b d) (turned.NotEnabled reason.NotWaiting)
      wake_none none =
          takes_none st k h ns holds (action.Wake b d) reason.NotWaiting
          (core_acts now h.number (action.Wake b d) h.core holds.stands.core
          ∙ (is_here now h.number.0 h.core b.0 d.0 acts x here found ∙ not_waiting now h.number.0 h.core b.0 d.0 x (slice_get x.control.states d.0) none))

      module _ (w : ChannelWait) (waits : channel_wait (slice_get x.control.states d.0) ≡ Some w) where
        -- the dispatcher does not go on
        pub wake_still : (r : Ring) → Has st k (a_channel (channel_of w).0) (channel r) → goes_on w r ≡ false → TakesTurn st k k h h ns (action.Wake b d) (turned.NotEnabled reason.StillWaits)
        wake_still r held still =
            takes_none st k h ns holds (action.Wake b d) reason.StillWaits
            (core_acts now h.number (action.Wake b d) h.core holds.stands.core
            ∙ (is_here now h.number.0 h.core b.0 d.0 acts x here found
            ∙ (waiting now h.number.0 h.core b.0 d.0 x (slice_get x.control.states d.0) w waits
            ∙ (ap (woken h.number.0 h.core b.0 d.0 x w) (channel_at (slice_get now.channels (channel_of w).0) r held.stands)
            ∙ still_waits now h.number.0 h.core b.0 d.0 x w r still))))

-- nothing is beside the hand before
module _ {D : Type 0} (st : Staged D) (opened : IsOpened st) (k : Passing D) (h : CoreHand D) (holds : HoldsBeside st k h []) (b : BlockNo) (d : DispNo)
    (acts : stopped h.core ≡ None) (here : in_share h.core.share b.0 ≡ true) (x : Block) (there : in_row h.row b.0 ≡ Some x) (w : ChannelWait)
    (waits : channel_wait (slice_get x.control.states d.0) ≡ Some w) where
  within : (channel_of w).0 < st.scene.settings.channels
  within =
      subst (λ n. (channel_of w).0 < n) (sized_after st opened k.seen).channels
      (waits_there (state_after st k.seen) b.0 x d.0 w (hand_sound st opened k h [] holds) (in_machine h (state_after st k.seen) holds.stands b.0 x here there) waits)

  looked : Listed (a_channel (channel_of w).0) (looks (state_after st k.seen) (turn_of (λ t. 0) (actor.Core h.number) (action.Wake b d)))
  looked =
      subst (Listed (a_channel (channel_of w).0))
      (sym (core_looks (state_after st k.seen) h.number (action.Wake b d) h.core holds.stands.core
      ∙ ap (λ ms. a_core h.number.0 ∷ ms) (wake_looks (state_after st k.seen) h.number.0 h.core b.0 d.0 x w acts here (in_machine h (state_after st k.seen) holds.stands b.0 x here there) waits)))
      (inr (inr (inl refl)))

  module _ (y : ChanNo) (is : y ≡ channel_of w) where
    pub channel_within : y.0 < st.scene.settings.channels
    channel_within = subst (λ (z : ChanNo). z.0 < st.scene.settings.channels) (sym is) within

    pub channel_free : has (number_of st (a_channel y.0)) k.holds ≡ false
    channel_free = none_beyond st opened k h (just_hand st k h holds) (a_channel y.0) channel_within tt

    -- another actor had the channel
    pub channel_busy : (l : Passing D) (busy : Busy) → Misses st k l (a_channel y.0) busy → TakesTurn st k l h h [] (action.Wake b d) (turned.Busy busy)
    channel_busy l busy g =
        takes_busy st k h [] holds (action.Wake b d) opened l (a_channel y.0) busy g
        (subst (λ (z : ChanNo). Listed (a_channel z.0) (looks (state_after st k.seen) (turn_of (λ t. 0) (actor.Core h.number) (action.Wake b d)))) (sym is) looked)

    module _ (l : Passing D) (r : Ring) (got : Gets st k l (a_channel y.0) (channel r)) where
      pub channel_beside : HoldsBeside st l h (a_channel (channel_of w).0 ∷ [])
      channel_beside = subst (λ (z : ChanNo). HoldsBeside st l h (a_channel z.0 ∷ [])) is (beside_taken st opened k h [] holds l (a_channel y.0) (channel r) got)

      pub channel_has : Has st l (a_channel (channel_of w).0) (channel r)
      channel_has = subst (λ (z : ChanNo). Has st l (a_channel z.0) (channel r)) is (has_taken st k l (a_channel y.0) (channel r) got channel_within)

      -- the channel goes back
      pub channel_back : (m n : Passing D) (g : CoreHand D) (t : Turned) → TakesTurn st l m h g (a_channel (channel_of w).0 ∷ []) (action.Wake b d) t →
          n ≡ having_put m (number_of st (a_channel y.0)) → TakesTurn st k n h g [] (action.Wake b d) t
      channel_back m n g t turn put =
          takes_with st opened k l m n h g (a_channel y.0) (channel r) (action.Wake b d) t got
          (subst (λ (z : ChanNo). TakesTurn st l m h g (a_channel z.0 ∷ []) (action.Wake b d) t) (sym is) turn) channel_within tt put
