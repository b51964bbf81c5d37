-- A core in hand has a slice of a block.
use Rattle.std.proofs.Common.{◌≡◌, ℕ, ◌<◌, true, List, ◌∷◌, ◌++◌, Option, Some, None, sym, ap, ◌∙◌, subst, map, inl, inr}
use Rattle.std.specs.Prelude.{slice_get, slice_set, ◌^◌, ⊤}
use Rattle.dc_base.specs.declared.actions.Action.TheVariants as action
use Rattle.dc_base.specs.declared.actions.Actor.TheVariants as actor
use Rattle.dc_base.specs.declared.calls.Need.{Need}
use Rattle.dc_base.specs.declared.calls.Need.TheVariants as needs
use Rattle.dc_base.specs.declared.entries.Entry.{Entry}
use Rattle.dc_base.specs.declared.kernels.Version.{Version}
use Rattle.dc_base.specs.declared.numbers.BlockNo.{BlockNo}
use Rattle.dc_base.specs.Changes.{Name, a_core, a_block, Change, core_becomes, block_becomes, apply}
use Rattle.dc_base.specs.Cores.{core_step, turn_of}
use Rattle.dc_base.specs.CoreTouches.{needed}
use Rattle.dc_base.specs.Firing.{Fired}
use Rattle.dc_base.specs.Histories.{Listed}
use Rattle.dc_base.specs.NeededLooks.{look_outside, outside_change}
use Rattle.dc_base.specs.NeedsHere.{need_here}
use Rattle.dc_base.specs.Outcomes.{share_blocks}
use Rattle.dc_base.specs.Outcomes.{has as in_share}
use Rattle.dc_base.specs.Serving.{Outside}
use Rattle.dc_base.specs.Slices.{Halfway}
use Rattle.dc_base.specs.SliceTurns.{finish_slice, slice_from, slice_picked, slice_turn}
use Rattle.dc_base.specs.Sound.{IsSound}
use Rattle.dc_base.specs.States.{State, Core, Block, Whereabouts, rest, on, Settings}
use Rattle.dc_base.specs.Steps.{step_on}
use Rattle.dc_base.specs.Turns.{Outcome, did, ends, looks}
use Rattle.dc_block_sound.proofs.Elements.{set_here}
use Rattle.dc_calls.specs.declared.outsides.Outside.{Outside as Held}
use Rattle.dc_calls.specs.Outsides.{HasRoom, outside_seen}
use Rattle.dc_kernel.specs.Begins.{IsQuantum, halfway_in, need_in}
use Rattle.dc_kernel.specs.Turned.{look_in, look_here}
use Rattle.dc_machine.proofs.InHands.{clock_low, quantum_is}
use Rattle.dc_machine.proofs.Needs.{has_needed}
use Rattle.dc_machine.proofs.Slicing.{has_room}
use Rattle.dc_objects.specs.Blocks.{running_of}
use Rattle.dc_refine.proofs.EntryActions.{Always, at_last}
use Rattle.dc_sound.proofs.Shares.{has-last}
use Rattle.dc_stage.specs.History.{Log}
use Rattle.dc_bodies.specs.InHand.{IsInHand, looked_in}
use Rattle.dc_bodies.specs.Nexts.{first_runnable}
use Rattle.dc_bodies.specs.OutsideKinds.{SameKind}
use Rattle.dc_bodies.specs.Sliced.{IsSlice}
use Rattle.dc_bodies.specs.Stops.{stopped}
use Rattle.dc_touch.specs.Within.{Within}
use Rattle.dc_hands.specs.declared.hands.CoreHand.{CoreHand}
use Rattle.dc_core_turns.specs.Beside.{StandsIn, HoldsBeside}
use Rattle.dc_core_turns.specs.Beyond.{HasOutside, needed_here}
use Rattle.dc_hands.specs.Hands.{objects_of}
use Rattle.dc_hands.specs.Holding.{SeesOn}
use Rattle.dc_core_turns.specs.Lending.{IsPutIn}
use Rattle.dc_hands.specs.Machines.{Staged, Passing, IsOpened, state_after}
use Rattle.dc_hands.specs.Rows.{in_row}
use Rattle.dc_core_turns.proofs.ActionLooks.{core_looks, slice_looks, step_looks}
use Rattle.dc_core_turns.proofs.BesideHands.{hand_sound, hand_stands, listed_left, listed_parts, listed_right}
use Rattle.dc_core_turns.proofs.HandTurns.{first_here, first_listed, hand_bounds, in_machine, looked_same, seen, step_slices}
use Rattle.dc_core_turns.proofs.MadeTurns.{AreSame}
use Rattle.dc_core_turns.proofs.NeededObjects.{need_alike, needed_within, outside_blocks, outside_cores, outside_stands}
use Rattle.dc_core_turns.proofs.RowChanges.{stands_changed}
use Rattle.dc_hands.proofs.Seeing.{sees_now}
use Rattle.dc_hands.proofs.Sounding.{sized_after}

-- a slice keeps the blocks of the share
abbrev KeepsShare : Core → Outcome → Type 0
KeepsShare k (did (core_becomes c k' ∷ more) e) = AreSame k.share k'.share
KeepsShare k o = ⊤

outside_keeps : (k : Core) (b : ℕ) (n : Need) (f : Outside → Outcome) → ((out : Outside) → KeepsShare k (f out)) → Always (KeepsShare k) (look_outside b n (λ out. ends (f out)))
unfolding look_outside
outside_keeps k b needs.Nothing f h = h _
outside_keeps k b needs.Console f h = λ o. h _
outside_keeps k b (needs.Channel x) f h = λ o. h _
outside_keeps k b (needs.Line l) f h = λ o. h _

half_keeps : (c : ℕ) (k : Core) (b : ℕ) (x : Block) (v : Version) (d count : ℕ) (h : Option Halfway) → Always (KeepsShare k) (finish_slice c k b x v d count h)
half_keeps c k b x v d count None = tt
half_keeps c k b x v d count (Some h) = outside_keeps k b _ _ (λ out. has-last b k.share)

picked_keeps : (c : ℕ) (k : Core) (b : ℕ) (x : Block) (time : ℕ) (v : Version) (f : Fired) (o : Option ℕ) → Always (KeepsShare k) (slice_picked c k b x time v f o)
picked_keeps c k b x time v f None = has-last b k.share
picked_keeps c k b x time v f (Some d) = half_keeps c k b x v d f.count _

from_keeps : (c : ℕ) (k : Core) (b : ℕ) (x : Block) (w : Whereabouts) → Always (KeepsShare k) (slice_from c k b x w)
from_keeps c k b x (rest kept) = tt
from_keeps c k b x (on d offset v) = picked_keeps c k b x _ v _ _

slice_keeps : (c : ℕ) (k : Core) (b : ℕ) (x : Block) → Always (KeepsShare k) (slice_turn c k b (Some x))
unfolding slice_turn
slice_keeps c k b x = from_keeps c k b x x.whereabouts

-- a hand that has a slice of block b next
module _ {D : Type 0} (st : Staged D) (opened : IsOpened st) (k : Passing D) (h : CoreHand D) (ns : List Name) (holds : HoldsBeside st k h ns)
    (b : BlockNo) (x : Block) (first : first_runnable h.core (seen h) ≡ Some (record { number = b.0; found = Some x })) where
  abbrev now : State
  now = state_after st k.seen

  sound : IsSound now
  sound = hand_sound st opened k h ns holds

  abbrev pub need_now : Need
  need_now = need_in (halfway_in h.core.settings.quantum h.core.clock (running_of x))

  pub there : in_row h.row b.0 ≡ Some x
  there = first_here h b x first

  pub listed : in_share h.core.share b.0 ≡ true
  listed = first_listed h b x first

  pub bounds : IsInHand h.number.0 h.core.clock x
  bounds = hand_bounds h now holds.stands sound b.0 x listed there

  pub quantum : IsQuantum h.core.settings.quantum
  quantum = quantum_is now sound h.number.0 h.core holds.stands.core

  pub clock : h.core.clock < 2 ^ 63
  clock = clock_low now sound h.number.0 h.core holds.stands.core

  -- the core counts as many lines as the stage
  lines_same : h.core.settings.lines ≡ st.scene.settings.lines
  lines_same =
      ap (λ (t : Settings). t.lines) (sound.settled.same h.number.0 h.core holds.stands.core)
      ∙ (sym sound.settled.lines ∙ (sized_after st opened k.seen).lines)

  module _ (need : Need) (is : need ≡ need_now) where
    -- what the call needs is an object of the machine
    pub need_within : (n : Name) → Listed n (needed_here st b.0 need) → Within st.scene.settings n
    need_within n l =
        needed_within st.scene.settings now b.0 need_now (sized_after st opened k.seen)
        (has_needed now sound b.0 x (in_machine h now holds.stands b.0 x listed there) h.core.settings.quantum h.core.clock) n (subst (λ m. Listed n (needed_here st b.0 m)) is l)

    module _ (acts : stopped h.core ≡ None) where
      slice_is : looks now (step_on h.number.0 h.core (looked_in (slice_get now.blocks) h.core.share) (first_runnable h.core (looked_in (slice_get now.blocks) h.core.share))) ≡ needed_here st b.0 need
      slice_is =
          ap (λ o. looks now (step_on h.number.0 h.core (looked_in (slice_get now.blocks) h.core.share) o)) (ap (first_runnable h.core) (looked_same h now holds.stands) ∙ first)
          ∙ (slice_looks now h.number.0 h.core b.0 x bounds.here ∙ (ap (needed b.0) (need_alike h.core.settings st.scene.settings lines_same need_now) ∙ ap (needed_here st b.0) (sym is)))

      looks_are : looks now (turn_of (λ t. 0) (actor.Core h.number) action.Step) ≡ objects_of h.number.0 h.core.share ++ needed_here st b.0 need
      looks_are =
          core_looks now h.number action.Step h.core holds.stands.core
          ∙ (ap (λ ms. a_core h.number.0 ∷ ms) (step_looks now h.number.0 h.core acts)
          ∙ ap (λ ms. a_core h.number.0 ∷ (map a_block (share_blocks h.core.share) ++ ms)) slice_is)

      -- the object that the call needs is looked at
      pub need_looked : (n : Name) → Listed n (needed_here st b.0 need) → Listed n (looks now (turn_of (λ t. 0) (actor.Core h.number) action.Step))
      need_looked n l = subst (Listed n) (sym looks_are) (listed_right n (objects_of h.number.0 h.core.share) (needed_here st b.0 need) l)

      -- and no other but those of the core
      pub slice_only : (n : Name) → Listed n (looks now (turn_of (λ t. 0) (actor.Core h.number) action.Step)) → Listed n (needed_here st b.0 need ++ objects_of h.number.0 h.core.share)
      slice_only n l = elim (listed_parts n (objects_of h.number.0 h.core.share) (needed_here st b.0 need) (subst (Listed n) looks_are l)) [
        | inl q ↦ listed_right n (needed_here st b.0 need) (objects_of h.number.0 h.core.share) q
        | inr q ↦ listed_left n (needed_here st b.0 need) (objects_of h.number.0 h.core.share) q
      ]

      module _ (o : Held) (has_it : HasOutside st k b.0 need o) where
        outside_is : (log : Log Entry) → SeesOn st k log → outside_seen o ≡ look_here h.core.settings (state_after st log) b.0 need
        outside_is log more =
            outside_stands st k b.0 need o has_it log more
            ∙ ap (look_in (state_after st log) b.0) (sym (need_alike h.core.settings st.scene.settings lines_same need))

        pub outside_room : HasRoom o
        outside_room = has_room now sound b.0 (need_here st.scene.settings need) o (outside_stands st k b.0 need o has_it k.seen (sees_now st k))

        module _ (k' : Core) (y : Block) (o' : Held) (e : Entry) (slice : IsSlice h.number.0 b.0 h.core k' x y need (outside_seen o) (outside_seen o') e) where
          abbrev pub slice_changes : List Change
          slice_changes = core_becomes h.number.0 k' ∷ block_becomes b.0 y ∷ outside_change b.0 need (outside_seen o')

          pub slice_made : (log : Log Entry) → SeesOn st k log → core_step (state_after st log) 0 (actor.Core h.number) action.Step ≡ did slice_changes e
          slice_made log more =
              step_slices h (state_after st log) (hand_stands st opened k h ns holds log more) acts b x first
              ∙ slice.turn (state_after st log) (outside_is log more)

          pub slice_kind : SameKind (outside_seen o) (outside_seen o')
          slice_kind = subst (λ out. SameKind out (outside_seen o')) (sym (outside_is k.seen (sees_now st k))) (slice.kind now (outside_is k.seen (sees_now st k)))

          pub slice_same : AreSame h.core.share k'.share
          slice_same =
              subst (KeepsShare h.core) (slice.turn now (outside_is k.seen (sees_now st k)))
              (at_last (KeepsShare h.core) now (slice_turn h.number.0 h.core b.0 (Some x)) (slice_keeps h.number.0 h.core b.0 x))

          pub slice_stands : (g : CoreHand D) → g.number ≡ h.number → g.core ≡ k' → IsPutIn b.0 y h.row g.row → StandsIn g (apply now slice_changes)
          slice_stands g number core put =
              let changed : State = record now { cores = slice_set now.cores h.number.0 k'; blocks = slice_set now.blocks b.0 y } in
              let cores : (apply now slice_changes).cores ≡ slice_set now.cores h.number.0 k' = outside_cores changed b.0 need (outside_seen o') in
              let blocks : (apply now slice_changes).blocks ≡ slice_set now.blocks b.0 y = outside_blocks changed b.0 need (outside_seen o') in
              stands_changed h g now (apply now slice_changes) holds.stands (λ m. ap (λ (z : Core). in_share z.share m) core ∙ slice_same m)
              (rw (number, core) (ap (λ (cs : List Core). slice_get cs h.number.0) cores ∙ set_here now.cores h.number.0 h.core k' holds.stands.core)) b.0 y listed put blocks
