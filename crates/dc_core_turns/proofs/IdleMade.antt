-- A core in hand idles.
use Rattle.std.proofs.Common.{◌≡◌, ℕ, ◌<◌, List, [], ◌∷◌, ◌++◌, Some, None, refl, sym, ap, ◌∙◌, subst, map}
use Rattle.std.specs.Prelude.{slice_get}
use Rattle.std.proofs.lemmas.List.{append-nil}
use Rattle.dc_base.specs.declared.actions.Action.TheVariants as action
use Rattle.dc_base.specs.declared.actions.Actor.TheVariants as actor
use Rattle.dc_base.specs.declared.entries.Entry.{Entry}
use Rattle.dc_base.specs.Changes.{Name, a_core, a_block, Change, core_becomes, apply}
use Rattle.dc_base.specs.Cores.{core_step, turn_of}
use Rattle.dc_base.specs.Histories.{Listed}
use Rattle.dc_base.specs.IdleTurns.{idle_outcome, next_due}
use Rattle.dc_base.specs.Outcomes.{share_blocks, with_clock}
use Rattle.dc_base.specs.Outcomes.{has as in_share}
use Rattle.dc_base.specs.States.{State, Core}
use Rattle.dc_base.specs.Steps.{step_on}
use Rattle.dc_base.specs.Turns.{did, looks}
use Rattle.dc_block_sound.proofs.Elements.{set_here}
use Rattle.dc_stage.specs.History.{Log}
use Rattle.dc_bodies.specs.InHand.{looked_in}
use Rattle.dc_bodies.specs.Nexts.{first_runnable}
use Rattle.dc_bodies.specs.Stops.{stopped}
use Rattle.dc_machine.proofs.Stops.{budget_left}
use Rattle.dc_hands.specs.declared.hands.CoreHand.{CoreHand}
use Rattle.dc_core_turns.specs.Beside.{StandsIn, HoldsBeside}
use Rattle.dc_hands.specs.Hands.{objects_of}
use Rattle.dc_hands.specs.Holding.{SeesOn}
use Rattle.dc_hands.specs.Machines.{Staged, Passing, IsOpened, state_after}
use Rattle.dc_core_turns.proofs.ActionLooks.{core_looks, step_looks}
use Rattle.dc_core_turns.proofs.BesideHands.{hand_sound, hand_stands}
use Rattle.dc_core_turns.proofs.HandTurns.{looked_same, seen, step_idles}
use Rattle.dc_core_turns.proofs.MadeTurns.{AreSame}
use Rattle.dc_core_turns.proofs.RowChanges.{stands_alike}

-- what the first change makes of the core
pub first_core : (c : ℕ) (x y : Core) (ms ns : List Change) (e f : Entry) → did (core_becomes c x ∷ ms) e ≡ did (core_becomes c y ∷ ns) f → x ≡ y
first_core c x y ms ns e f h =
    let one : core_becomes c x ∷ ms ≡ core_becomes c y ∷ ns = cc in
    let two : core_becomes c x ≡ core_becomes c y = cc in
    cc

idled_core : (c : ℕ) (k k' : Core) (clock : ℕ) (e : Entry) → idle_outcome c k (Some clock) ≡ did (core_becomes c k' ∷ []) e → with_clock clock k ≡ k'
unfolding idle_outcome
idled_core c k k' clock e h = first_core c (with_clock clock k) k' [] [] _ e h

-- some of the budget of a core in hand is left
pub hand_budget : {D : Type 0} (st : Staged D) → IsOpened st → (k : Passing D) (h : CoreHand D) (ns : List Name) → HoldsBeside st k h ns → stopped h.core ≡ None → h.core.used < h.core.settings.slices
hand_budget st opened k h ns holds acts = budget_left h.core acts ((hand_sound st opened k h ns holds).counted.used h.number.0 h.core holds.stands.core)

module _ {D : Type 0} (st : Staged D) (opened : IsOpened st) (k : Passing D) (h : CoreHand D) (holds : HoldsBeside st k h []) (acts : stopped h.core ≡ None)
    (clock : ℕ) (none : first_runnable h.core (seen h) ≡ None) (due : next_due (seen h) ≡ Some clock) where
  abbrev now : State
  now = state_after st k.seen

  step_is : looks now (step_on h.number.0 h.core (looked_in (slice_get now.blocks) h.core.share) (first_runnable h.core (looked_in (slice_get now.blocks) h.core.share))) ≡ []
  step_is = ap (λ o. looks now (step_on h.number.0 h.core (looked_in (slice_get now.blocks) h.core.share) o)) (ap (first_runnable h.core) (looked_same h now holds.stands) ∙ none)

  looks_are : looks now (turn_of (λ t. 0) (actor.Core h.number) action.Step) ≡ objects_of h.number.0 h.core.share
  looks_are =
      core_looks now h.number action.Step h.core holds.stands.core
      ∙ (ap (λ ns. a_core h.number.0 ∷ ns) (step_looks now h.number.0 h.core acts)
      ∙ (ap (λ ns. a_core h.number.0 ∷ (map a_block (share_blocks h.core.share) ++ ns)) step_is ∙ ap (λ ns. a_core h.number.0 ∷ ns) (append-nil (map a_block (share_blocks h.core.share)))))

  pub idle_only : (n : Name) → Listed n (looks now (turn_of (λ t. 0) (actor.Core h.number) action.Step)) → Listed n ([] ++ objects_of h.number.0 h.core.share)
  idle_only n l = subst (Listed n) looks_are l

  module _ (k' : Core) (e : Entry) (idled : idle_outcome h.number.0 h.core (Some clock) ≡ did (core_becomes h.number.0 k' ∷ []) e) where
    pub idle_made : (log : Log Entry) → SeesOn st k log → core_step (state_after st log) 0 (actor.Core h.number) action.Step ≡ did (core_becomes h.number.0 k' ∷ []) e
    idle_made log on = step_idles h (state_after st log) (hand_stands st opened k h [] holds log on) acts none ∙ (ap (idle_outcome h.number.0 h.core) due ∙ idled)

    pub idle_same : AreSame h.core.share k'.share
    idle_same b = ap (λ (x : Core). in_share x.share b) (sym (idled_core h.number.0 h.core k' clock e idled))

    pub idle_stands : (g : CoreHand D) → g.number ≡ h.number → g.core ≡ k' → g.row ≡ h.row → StandsIn g (apply now (core_becomes h.number.0 k' ∷ []))
    idle_stands g number core row =
        stands_alike h g now (apply now (core_becomes h.number.0 k' ∷ [])) holds.stands (λ b. ap (λ (x : Core). in_share x.share b) core ∙ idle_same b)
        (rw (number, core) (set_here now.cores h.number.0 h.core k' holds.stands.core)) row refl
