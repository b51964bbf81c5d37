-- An intake of a core in hand, with the line taken before it and put back after it.
use Rattle.std.proofs.Common.{◌≡◌, ℕ, ◌<◌, true, false, List, [], ◌∷◌, Some, refl, sym, ap, ◌∙◌, subst, inl, inr}
use Rattle.std.specs.Prelude.{slice_get, is_some}
use Rattle.dc_base.specs.declared.actions.Action.TheVariants as action
use Rattle.dc_base.specs.declared.entries.Reason.{Reason}
use Rattle.dc_base.specs.declared.entries.Reason.TheVariants as reason
use Rattle.dc_base.specs.declared.numbers.LineNo.{LineNo}
use Rattle.dc_base.specs.Changes.{Name, a_core, a_line, wire}
use Rattle.dc_base.specs.Histories.{Listed}
use Rattle.dc_base.specs.Intakes.{intake_line}
use Rattle.dc_base.specs.Lines.{Wire}
use Rattle.dc_base.specs.States.{State}
use Rattle.dc_base.specs.Turns.{ends, not_enabled, outcome}
use Rattle.dc_bodies.proofs.IntakeTurns.{core_off, core_on}
use Rattle.dc_machine.proofs.Stops.{core_acts}
use Rattle.dc_stage.specs.Numbers.{has}
use Rattle.dc_stage.specs.Passes.{having_put}
use Rattle.dc_hands.specs.declared.answers.Turned.{Turned}
use Rattle.dc_hands.specs.declared.answers.Turned.TheVariants as turned
use Rattle.dc_hands.specs.declared.hands.CoreHand.{CoreHand}
use Rattle.dc_hands.specs.declared.takes.Busy.{Busy}
use Rattle.dc_core_turns.specs.Beside.{HoldsBeside}
use Rattle.dc_hands.specs.Holding.{Has, Gets, Misses}
use Rattle.dc_hands.specs.Machines.{Staged, Passing, IsOpened, state_after, number_of}
use Rattle.dc_core_turns.specs.Turning.{TakesTurn}
use Rattle.dc_core_turns.proofs.ActionLooks.{core_looks, intake_looks}
use Rattle.dc_core_turns.proofs.BesideHands.{beside_taken, just_hand}
use Rattle.dc_hands.proofs.HeldHands.{none_beyond}
use Rattle.dc_core_turns.proofs.IntakeMade.{line_at}
use Rattle.dc_core_turns.proofs.TurnParts.{takes_with}
use Rattle.dc_core_turns.proofs.VainTurns.{takes_busy, takes_none}

module _ {D : Type 0} (st : Staged D) (k : Passing D) (h : CoreHand D) (ns : List Name) (holds : HoldsBeside st k h ns) (l : LineNo) where
  abbrev now : State
  now = state_after st k.seen

  -- the core is off
  pub intake_off : is_some h.core.version ≡ false → TakesTurn st k k h h ns (action.Intake l) (turned.NotEnabled reason.CoreOff)
  intake_off off =
      takes_none st k h ns holds (action.Intake l) reason.CoreOff
      (core_acts now h.number (action.Intake l) h.core holds.stands.core ∙ core_off now h.number.0 h.core l.0 off)

  -- the core may not take a raise of the line in
  pub intake_refused : is_some h.core.version ≡ true → (w : Wire) → Has st k (a_line l.0) (wire w) → (why : Reason) → ((m : ℕ) → intake_line h.number.0 h.core m (Some w) ≡ ends (not_enabled why)) →
      TakesTurn st k k h h ns (action.Intake l) (turned.NotEnabled why)
  intake_refused on_core w held why refused =
      takes_none st k h ns holds (action.Intake l) why
      (core_acts now h.number (action.Intake l) h.core holds.stands.core
      ∙ (core_on now h.number.0 h.core l.0 w on_core (line_at (slice_get now.lines l.0) w held.stands) ∙ ap (outcome now) (refused l.0)))

-- nothing is beside the hand before
module _ {D : Type 0} (st : Staged D) (opened : IsOpened st) (k : Passing D) (h : CoreHand D) (holds : HoldsBeside st k h []) (l : LineNo)
    (within : l.0 < st.scene.settings.lines) where
  pub line_free : has (number_of st (a_line l.0)) k.holds ≡ false
  line_free = none_beyond st opened k h (just_hand st k h holds) (a_line l.0) within tt

  -- another actor had the line
  pub line_busy : is_some h.core.version ≡ true → (m : Passing D) (busy : Busy) → Misses st k m (a_line l.0) busy → TakesTurn st k m h h [] (action.Intake l) (turned.Busy busy)
  line_busy on_core m busy g =
      takes_busy st k h [] holds (action.Intake l) opened m (a_line l.0) busy g
      (subst (Listed (a_line l.0))
      (sym (core_looks (state_after st k.seen) h.number (action.Intake l) h.core holds.stands.core
      ∙ ap (λ ms. a_core h.number.0 ∷ ms) (intake_looks (state_after st k.seen) h.number.0 h.core l.0 on_core)))
      (inr (inl refl)))

  module _ (m : Passing D) (w : Wire) (got : Gets st k m (a_line l.0) (wire w)) where
    pub line_beside : HoldsBeside st m h (a_line l.0 ∷ [])
    line_beside = beside_taken st opened k h [] holds m (a_line l.0) (wire w) got

    -- the line goes back
    pub line_back : (n o : Passing D) (g : CoreHand D) (t : Turned) → TakesTurn st m n h g (a_line l.0 ∷ []) (action.Intake l) t →
        o ≡ having_put n (number_of st (a_line l.0)) → TakesTurn st k o h g [] (action.Intake l) t
    line_back n o g t turn put = takes_with st opened k m n o h g (a_line l.0) (wire w) (action.Intake l) t got turn within tt put
