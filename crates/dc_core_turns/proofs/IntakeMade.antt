-- A core in hand takes a raise in.
use Rattle.std.proofs.Common.{◌≡◌, ◌<◌, true, List, [], ◌∷◌, ◌++◌, Option, Some, None, refl, sym, ap, ◌∙◌, subst, map, inl, inr, length}
use Rattle.std.specs.Prelude.{slice_get, is_some}
use Rattle.std.specs.Option.{option_map}
use Rattle.dc_base.specs.declared.actions.Action.TheVariants as action
use Rattle.dc_base.specs.declared.actions.Actor.TheVariants as actor
use Rattle.dc_base.specs.declared.entries.Entry.{Entry}
use Rattle.dc_base.specs.declared.numbers.LineNo.{LineNo}
use Rattle.dc_base.specs.Changes.{Name, a_core, a_block, a_line, at, Change, block_becomes, line_becomes, wire, apply}
use Rattle.dc_base.specs.Cores.{core_step, turn_of}
use Rattle.dc_base.specs.Histories.{Listed}
use Rattle.dc_base.specs.Lines.{Wire}
use Rattle.dc_base.specs.Outcomes.{share_blocks}
use Rattle.dc_base.specs.Outcomes.{has as in_share}
use Rattle.dc_base.specs.States.{State, Core, Block}
use Rattle.dc_base.specs.Turns.{did, looks}
use Rattle.dc_block_sound.proofs.Elements.{set_here}
use Rattle.dc_stage.specs.History.{Log}
use Rattle.dc_bodies.specs.declared.intakes.Pending.{Pending}
use Rattle.dc_bodies.specs.Pendings.{IsPending}
use Rattle.dc_bodies.specs.TakenIn.{IsIntake, StandToTake}
use Rattle.dc_machine.proofs.Intakings.{signal_there}
use Rattle.dc_objects.specs.Blocks.{IsHeld}
use Rattle.dc_hands.specs.declared.hands.CoreHand.{CoreHand}
use Rattle.dc_core_turns.specs.Beside.{StandsIn, HoldsBeside}
use Rattle.dc_hands.specs.Hands.{objects_of}
use Rattle.dc_hands.specs.Holding.{Has, SeesOn}
use Rattle.dc_core_turns.specs.Lending.{IsPutIn}
use Rattle.dc_hands.specs.Machines.{Staged, Passing, IsOpened, state_after}
use Rattle.dc_hands.specs.Rows.{in_row}
use Rattle.dc_core_turns.proofs.ActionLooks.{core_looks, intake_looks, pending_looks}
use Rattle.dc_core_turns.proofs.BesideHands.{hand_sound, hand_stands}
use Rattle.dc_core_turns.proofs.HandTurns.{hand_bounds, in_machine}
use Rattle.dc_hands.proofs.HeldHands.{block_listed}
use Rattle.dc_core_turns.proofs.RowChanges.{stands_changed}
use Rattle.dc_hands.proofs.Seeing.{sees_now}

pub line_at : (o : Option Wire) (w : Wire) → option_map wire o ≡ Some (wire w) → o ≡ Some w
line_at None w e = absurd cc
line_at (Some v) w e = let f : wire v ≡ wire w = cc in let same : v ≡ w = cc in ap Some same

module _ {D : Type 0} (st : Staged D) (opened : IsOpened st) (k : Passing D) (h : CoreHand D) (l : LineNo) (holds : HoldsBeside st k h (a_line l.0 ∷ []))
    (w : Wire) (held : Has st k (a_line l.0) (wire w)) where
  abbrev now : State
  now = state_after st k.seen

  abbrev beside : List Name
  beside = a_line l.0 ∷ []

  pub line_now : (log : Log Entry) → SeesOn st k log → slice_get (state_after st log).lines l.0 ≡ Some w
  line_now log on = line_at (slice_get (state_after st log).lines l.0) w (on.kept (a_line l.0) held.within held.held ∙ held.stands)

  module _ (p : Pending) (pending : IsPending h.number.0 h.core w p) where
    -- the block to which the raise comes
    pub to_block : (x : Block) × (in_row h.row p.block.0 ≡ Some x) × IsHeld x × (p.signal.0 < length x.control.parts.signals)
    to_block =
        let x = holds.stands.blocks p.block.0 pending.here in
        let sound = hand_sound st opened k h beside holds in (
          x.0,
          x.1,
          (hand_bounds h now holds.stands sound p.block.0 x.0 pending.here x.1).timed.held,
          signal_there now l.0 p.block.0 p.signal.0 w x.0 sound (line_now k.seen (sees_now st k)) pending.bound x.2,
        )

    module _ (on_core : is_some h.core.version ≡ true) where
      looks_are : looks now (turn_of (λ t. 0) (actor.Core h.number) (action.Intake l)) ≡ a_core h.number.0 ∷ a_line l.0 ∷ a_block p.block.0 ∷ []
      looks_are =
          core_looks now h.number (action.Intake l) h.core holds.stands.core
          ∙ (ap (λ ns. a_core h.number.0 ∷ ns) (intake_looks now h.number.0 h.core l.0 on_core)
          ∙ ap (λ ns. a_core h.number.0 ∷ a_line l.0 ∷ ns) (pending_looks now h.number.0 h.core l.0 w p pending (line_now k.seen (sees_now st k))))

      only_by : (n : Name) → Listed n (a_core h.number.0 ∷ a_line l.0 ∷ a_block p.block.0 ∷ []) → Listed n (beside ++ objects_of h.number.0 h.core.share)
      only_by n (inl e) = inr (inl e)
      only_by n (inr (inl e)) = inl e
      only_by n (inr (inr (inl e))) = inr (inr (subst (λ m. Listed m (map a_block (share_blocks h.core.share))) (sym e) (block_listed h.core.share p.block.0 pending.here)))
      only_by n (inr (inr (inr l))) = absurd l

      pub intake_only : (n : Name) → Listed n (looks now (turn_of (λ t. 0) (actor.Core h.number) (action.Intake l))) → Listed n (beside ++ objects_of h.number.0 h.core.share)
      intake_only n l = only_by n (subst (Listed n) looks_are l)

      module _ (x y : Block) (there : in_row h.row p.block.0 ≡ Some x) (w' : Wire) (e : Entry) (takes : IsIntake h.number.0 l.0 p w w' x y e) where
        abbrev pub intake_changes : List Change
        intake_changes = block_becomes p.block.0 y ∷ line_becomes l.0 w' ∷ []

        stand : (log : Log Entry) → SeesOn st k log → StandToTake (state_after st log) h.number.0 h.core l.0 w p x
        stand log on =
            let stands : StandsIn h (state_after st log) = hand_stands st opened k h beside holds log on in
            record { core = stands.core; is_on = on_core; line = line_now log on; block = in_machine h (state_after st log) stands p.block.0 x pending.here there }

        pub intake_made : (log : Log Entry) → SeesOn st k log → core_step (state_after st log) 0 (actor.Core h.number) (action.Intake l) ≡ did intake_changes e
        unfolding core_step
        intake_made log on = takes (state_after st log) h.core pending (stand log on) (λ t. 0)

        pub intake_stands : (g : CoreHand D) → g.number ≡ h.number → g.core ≡ h.core → IsPutIn p.block.0 y h.row g.row → StandsIn g (apply now intake_changes)
        intake_stands g number core put =
            stands_changed h g now (apply now intake_changes) holds.stands (λ m. ap (λ (z : Core). in_share z.share m) core)
            (rw (number, core) holds.stands.core) p.block.0 y pending.here put refl

        -- the line afterwards
        pub line_after : at (apply now intake_changes) (a_line l.0) ≡ Some (wire w')
        line_after = ap (option_map wire) (set_here now.lines l.0 w w' (line_now k.seen (sees_now st k)))
