-- A core's step, by what the core does next.
use Rattle.std.proofs.Common.{◌≡◌, Bool, true, false, List, Option, Some, None, refl, sym, ap, ◌∙◌, subst}
use Rattle.std.specs.Prelude.{slice_get, ◌==◌, if◌then◌else◌}
use Rattle.std.proofs.lemmas.Option.{none-some, same_Some}
use Rattle.dc_base.specs.declared.actions.Action.{Action}
use Rattle.dc_base.specs.declared.actions.Action.TheVariants as action
use Rattle.dc_base.specs.declared.actions.Actor.TheVariants as actor
use Rattle.dc_base.specs.declared.entries.Reason.TheVariants as reason
use Rattle.dc_base.specs.declared.kernels.Version.{Version}
use Rattle.dc_base.specs.declared.numbers.BlockNo.{BlockNo}
use Rattle.dc_base.specs.declared.numbers.CoreNo.{CoreNo}
use Rattle.dc_base.specs.Cores.{core_action, core_turn, core_step, turn_of}
use Rattle.dc_base.specs.Outcomes.{has, if_on}
use Rattle.dc_base.specs.States.{State, Core, Block}
use Rattle.dc_base.specs.Steps.{is_runnable, step_on}
use Rattle.dc_base.specs.IdleTurns.{next_due, idle_outcome}
use Rattle.dc_base.specs.SliceTurns.{slice_turn}
use Rattle.dc_base.specs.Turns.{Looked, Turn, Outcome, ends, spent, outcome}
use Rattle.dc_bodies.specs.declared.stops.Stepped.{Stepped}
use Rattle.dc_bodies.specs.declared.stops.Stepped.TheVariants as stepped
use Rattle.dc_machine.specs.Answers.{Answers}
use Rattle.dc_bodies.specs.InHand.{looked_in}
use Rattle.dc_bodies.specs.Nexts.{first_runnable}
use Rattle.dc_bodies.specs.Stops.{stopped, stopped_at}
use Rattle.dc_bodies.proofs.Firsts.{found_one}

-- an action of a core that is there
pub action_is : (s : State) (c : CoreNo) (k : Core) (a : Action) → slice_get s.cores c.0 ≡ Some k → core_step s 0 (actor.Core c) a ≡ outcome s (core_action c.0 k a)
unfolding core_step turn_of
action_is s c k a at = ap (λ o. outcome s (core_turn c.0 a o)) at

module _ (s : State) where
  stop_by : (r : Stepped) (turn : Turn) (t : Bool) (v : Option Version) → (if t then Some stepped.Spent else stopped_at v) ≡ Some r → Answers r s s (outcome s (if t then ends spent else if_on v turn))
  stop_by r turn true v e = (sym (same_Some stepped.Spent r e), refl)
  stop_by r turn false None e = (sym (same_Some (stepped.NotEnabled reason.CoreOff) r e), refl)
  stop_by r turn false (Some v) e = absurd (none-some r e)

  go_by : (turn : Turn) (t : Bool) (v : Option Version) → (if t then Some stepped.Spent else stopped_at v) ≡ None → (t ≡ false) × (outcome s (if t then ends spent else if_on v turn) ≡ outcome s turn)
  go_by turn true v e = absurd (none-some stepped.Spent (sym e))
  go_by turn false None e = absurd (none-some (stepped.NotEnabled reason.CoreOff) (sym e))
  go_by turn false (Some v) e = (refl, refl)

  module _ (c : CoreNo) (k : Core) (at : slice_get s.cores c.0 ≡ Some k) where
    abbrev pub step : Outcome
    step = core_step s 0 (actor.Core c) action.Step

    -- the blocks of the share, looked at
    abbrev pub seen : List Looked
    seen = looked_in (slice_get s.blocks) k.share

    -- a core whose budget is used, or that is off
    pub stops : (r : Stepped) → stopped k ≡ Some r → Answers r s s step
    stops r e = subst (Answers r s s) (sym (action_is s c k action.Step at)) (stop_by r _ (k.used == k.settings.slices) k.version e)

    pub unspent : stopped k ≡ None → (k.used == k.settings.slices) ≡ false
    unspent e = (go_by (ends spent) (k.used == k.settings.slices) k.version e).0

    pub goes : stopped k ≡ None → step ≡ outcome s (step_on c.0 k seen (first_runnable k seen))
    goes e = action_is s c k action.Step at ∙ (go_by _ (k.used == k.settings.slices) k.version e).1

    -- no block can run
    pub idles : stopped k ≡ None → first_runnable k seen ≡ None → step ≡ idle_outcome c.0 k (next_due seen)
    idles e f = goes e ∙ ap (λ o. outcome s (step_on c.0 k seen o)) f

    pub nothing : stopped k ≡ None → first_runnable k seen ≡ None → next_due seen ≡ None → Answers (stepped.NotEnabled reason.Nothing) s s step
    unfolding idle_outcome
    nothing e f g = subst (Answers (stepped.NotEnabled reason.Nothing) s s) (sym (idles e f ∙ ap (idle_outcome c.0 k) g)) (refl, refl)

    -- the first block that can run
    module _ (b : BlockNo) (x : Block) (f : first_runnable k seen ≡ Some (record { number = b.0; found = Some x })) where
      pub first_there : slice_get s.blocks b.0 ≡ Some x
      first_there = let p = found_one (slice_get s.blocks) (is_runnable k.clock) k.share (record { number = b.0; found = Some x }) f in sym (ap (λ (l : Looked). l.found) p.0)

      pub first_listed : has k.share b.0 ≡ true
      first_listed = (found_one (slice_get s.blocks) (is_runnable k.clock) k.share (record { number = b.0; found = Some x }) f).1

      pub slices : stopped k ≡ None → step ≡ outcome s (slice_turn c.0 k b.0 (slice_get s.blocks b.0))
      slices e = goes e ∙ (ap (λ o. outcome s (step_on c.0 k seen o)) f ∙ ap (λ o. outcome s (slice_turn c.0 k b.0 o)) (sym first_there))
