-- A core in hand wakes a dispatcher.
use Rattle.std.proofs.Common.{◌≡◌, List, [], ◌∷◌, ◌++◌, Option, Some, None, refl, sym, ap, ◌∙◌, subst, map, inl, inr, IsSome}
use Rattle.std.specs.Prelude.{slice_get, ◌+◌}
use Rattle.std.specs.Option.{option_map}
use Rattle.dc_base.specs.declared.actions.Action.TheVariants as action
use Rattle.dc_base.specs.declared.actions.Actor.TheVariants as actor
use Rattle.dc_base.specs.declared.entries.Entry.{Entry}
use Rattle.dc_base.specs.declared.numbers.BlockNo.{BlockNo}
use Rattle.dc_base.specs.declared.numbers.DispNo.{DispNo}
use Rattle.dc_base.specs.Changes.{Name, a_core, a_block, a_channel, Change, core_becomes, block_becomes, channel, apply}
use Rattle.dc_base.specs.Channels.{Ring}
use Rattle.dc_base.specs.Cores.{core_step, turn_of}
use Rattle.dc_base.specs.Histories.{Listed}
use Rattle.dc_base.specs.Outcomes.{share_blocks}
use Rattle.dc_base.specs.Outcomes.{has as in_share}
use Rattle.dc_base.specs.States.{State, Core, Block}
use Rattle.dc_base.specs.Turns.{did, looks}
use Rattle.dc_base.specs.Wakes.{after_wake}
use Rattle.dc_block_sound.proofs.Elements.{set_here}
use Rattle.dc_stage.specs.History.{Log}
use Rattle.dc_bodies.proofs.WakeTurns.{is_here}
use Rattle.dc_bodies.proofs.Wakings.{waiting, wakes, woken}
use Rattle.dc_bodies.specs.declared.wakes.ChannelWait.{ChannelWait}
use Rattle.dc_bodies.specs.Waits.{channel_of, channel_wait}
use Rattle.dc_bodies.specs.Woken.{CanWake, IsWake, StandToWake}
use Rattle.dc_machine.proofs.Sounds.{waits_so}
use Rattle.dc_machine.proofs.Stops.{core_acts}
use Rattle.dc_objects.specs.Blocks.{IsHeld}
use Rattle.dc_hands.specs.declared.hands.CoreHand.{CoreHand}
use Rattle.dc_core_turns.specs.Beside.{StandsIn, HoldsBeside}
use Rattle.dc_hands.specs.Hands.{objects_of}
use Rattle.dc_hands.specs.Holding.{Has, SeesOn}
use Rattle.dc_core_turns.specs.Lending.{IsPutIn}
use Rattle.dc_hands.specs.Machines.{Staged, Passing, IsOpened, state_after}
use Rattle.dc_hands.specs.Rows.{in_row}
use Rattle.dc_core_turns.proofs.ActionLooks.{core_looks, wake_looks}
use Rattle.dc_core_turns.proofs.BesideHands.{hand_sound, hand_stands}
use Rattle.dc_core_turns.proofs.HandTurns.{hand_bounds, in_machine}
use Rattle.dc_hands.proofs.HeldHands.{block_listed}
use Rattle.dc_core_turns.proofs.IdleMade.{first_core}
use Rattle.dc_core_turns.proofs.MadeTurns.{AreSame}
use Rattle.dc_core_turns.proofs.RowChanges.{stands_changed}
use Rattle.dc_hands.proofs.Seeing.{sees_now}

pub channel_at : (o : Option Ring) (r : Ring) → option_map channel o ≡ Some (channel r) → o ≡ Some r
channel_at None r e = absurd cc
channel_at (Some q) r e = let f : channel q ≡ channel r = cc in let same : q ≡ r = cc in ap Some same

module _ {D : Type 0} (st : Staged D) (opened : IsOpened st) (k : Passing D) (h : CoreHand D) (w : ChannelWait) (holds : HoldsBeside st k h (a_channel (channel_of w).0 ∷ []))
    (r : Ring) (held : Has st k (a_channel (channel_of w).0) (channel r)) (b : BlockNo) (d : DispNo) (x : Block) (there : in_row h.row b.0 ≡ Some x) where
  abbrev now : State
  now = state_after st k.seen

  abbrev beside : List Name
  beside = a_channel (channel_of w).0 ∷ []

  channel_now : (log : Log Entry) → SeesOn st k log → slice_get (state_after st log).channels (channel_of w).0 ≡ Some r
  channel_now log on = channel_at (slice_get (state_after st log).channels (channel_of w).0) r (on.kept (a_channel (channel_of w).0) held.within held.held ∙ held.stands)

  module _ (can : CanWake h.core b.0 d.0 x w r) where
    pub wake_block : (x : Block) × (in_row h.row b.0 ≡ Some x) × IsHeld x × IsSome (channel_wait (slice_get x.control.states d.0))
    wake_block = (x, there, (hand_bounds h now holds.stands (hand_sound st opened k h beside holds) b.0 x can.here there).timed.held, waits_so can.waits)

    stand : (log : Log Entry) → SeesOn st k log → StandToWake (state_after st log) h.number.0 h.core b.0 x w r
    stand log on =
        let stands : StandsIn h (state_after st log) = hand_stands st opened k h beside holds log on in
        record { core = stands.core; block = in_machine h (state_after st log) stands b.0 x can.here there; channel = channel_now log on }

    looks_are : looks now (turn_of (λ t. 0) (actor.Core h.number) (action.Wake b d)) ≡ a_core h.number.0 ∷ a_block b.0 ∷ beside
    looks_are =
        core_looks now h.number (action.Wake b d) h.core holds.stands.core
        ∙ ap (λ ns. a_core h.number.0 ∷ ns) (wake_looks now h.number.0 h.core b.0 d.0 x w can.acts can.here (in_machine h now holds.stands b.0 x can.here there) can.waits)

    only_by : (n : Name) → Listed n (a_core h.number.0 ∷ a_block b.0 ∷ beside) → Listed n (beside ++ objects_of h.number.0 h.core.share)
    only_by n (inl e) = inr (inl e)
    only_by n (inr (inl e)) = inr (inr (subst (λ m. Listed m (map a_block (share_blocks h.core.share))) (sym e) (block_listed h.core.share b.0 can.here)))
    only_by n (inr (inr (inl e))) = inl e
    only_by n (inr (inr (inr l))) = absurd l

    pub wake_only : (n : Name) → Listed n (looks now (turn_of (λ t. 0) (actor.Core h.number) (action.Wake b d))) → Listed n (beside ++ objects_of h.number.0 h.core.share)
    wake_only n l = only_by n (subst (Listed n) looks_are l)

    module _ (k' : Core) (y : Block) (e : Entry) (wakes_it : IsWake h.number.0 b.0 d.0 h.core k' x y e) where
      abbrev pub wake_changes : List Change
      wake_changes = core_becomes h.number.0 k' ∷ block_becomes b.0 y ∷ []

      pub wake_made : (log : Log Entry) → SeesOn st k log → core_step (state_after st log) 0 (actor.Core h.number) (action.Wake b d) ≡ did wake_changes e
      unfolding core_step
      wake_made log on = wakes_it (state_after st log) w r can (stand log on) (λ t. 0)

      turn_is : core_step now 0 (actor.Core h.number) (action.Wake b d) ≡ after_wake h.number.0 h.core b.0 d.0 x
      turn_is =
          core_acts now h.number (action.Wake b d) h.core holds.stands.core
          ∙ (is_here now h.number.0 h.core b.0 d.0 can.acts x can.here (in_machine h now holds.stands b.0 x can.here there)
          ∙ (waiting now h.number.0 h.core b.0 d.0 x (slice_get x.control.states d.0) w can.waits
          ∙ (ap (woken h.number.0 h.core b.0 d.0 x w) (channel_now k.seen (sees_now st k)) ∙ wakes now h.number.0 h.core b.0 d.0 x w r can.on)))

      core_is : record h.core { used = h.core.used + 1 } ≡ k'
      core_is = first_core h.number.0 (record h.core { used = h.core.used + 1 }) k' _ _ _ e (sym turn_is ∙ wake_made k.seen (sees_now st k))

      pub wake_same : AreSame h.core.share k'.share
      wake_same m = ap (λ (z : Core). in_share z.share m) (sym core_is)

      pub wake_stands : (g : CoreHand D) → g.number ≡ h.number → g.core ≡ k' → IsPutIn b.0 y h.row g.row → StandsIn g (apply now wake_changes)
      wake_stands g number core put =
          stands_changed h g now (apply now wake_changes) holds.stands (λ m. ap (λ (z : Core). in_share z.share m) core ∙ wake_same m)
          (rw (number, core) (set_here now.cores h.number.0 h.core k' holds.stands.core)) b.0 y can.here put refl
