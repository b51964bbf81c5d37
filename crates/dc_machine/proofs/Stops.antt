-- A core that does nothing at all, and one that goes on.
use Rattle.std.proofs.Common.{◌≡◌, ◌≤◌, ◌<◌, Bool, true, false, Option, Some, None, refl, sym, ap, subst, arith}
use Rattle.std.specs.Prelude.{◌==◌, slice_get, if◌then◌else◌}
use Rattle.std.proofs.lemmas.Bool.Decides.{nat_tests}
use Rattle.dc_base.specs.declared.actions.Action.{Action}
use Rattle.dc_base.specs.declared.actions.Actor.TheVariants as actor
use Rattle.dc_base.specs.declared.numbers.CoreNo.{CoreNo}
use Rattle.dc_base.specs.declared.kernels.Version.{Version}
use Rattle.dc_base.specs.States.{State, Core}
use Rattle.dc_base.specs.Turns.{Turn, ends, spent, outcome}
use Rattle.dc_base.specs.Outcomes.{if_on}
use Rattle.dc_base.specs.Cores.{core_step, core_action, core_turn, turn_of}
use Rattle.dc_bodies.specs.declared.stops.Stepped.{Stepped}
use Rattle.dc_bodies.specs.declared.stops.Stepped.TheVariants as stepped
use Rattle.dc_machine.specs.Answers.{Answers}
use Rattle.dc_bodies.specs.Stops.{stopped, stopped_at}

-- the step of a core that there is
pub core_acts : (s : State) (c : CoreNo) (a : Action) (k : Core) → slice_get s.cores c.0 ≡ Some k → core_step s 0 (actor.Core c) a ≡ outcome s (core_action c.0 k a)
unfolding core_step turn_of
core_acts s c a k e = ap (λ o. outcome s (core_turn c.0 a o)) e

pub core_answers : (s new : State) (c : CoreNo) (a : Action) (k : Core) (r : Stepped) → slice_get s.cores c.0 ≡ Some k → Answers r s new (outcome s (core_action c.0 k a)) → Answers r s new (core_step s 0 (actor.Core c) a)
core_answers s new c a k r e h = subst (λ o. Answers r s new o) (sym (core_acts s c a k e)) h

stops_by : (s : State) (u : Bool) (v : Option Version) (t : Turn) (r : Stepped) → (if u then Some stepped.Spent else stopped_at v) ≡ Some r → Answers r s s (outcome s (if u then ends spent else if_on v t))
stops_by s true v t r e = subst (λ q. Answers q s s spent) (inner stepped.Spent r e) (refl, refl)
  where
    inner : (p q : Stepped) → Some p ≡ Some q → p ≡ q
    inner p q e = cc
stops_by s false None t r e = subst (λ q. Answers q s s (outcome s (if_on None t))) (inner _ r e) (refl, refl)
  where
    inner : (p q : Stepped) → Some p ≡ Some q → p ≡ q
    inner p q e = cc
stops_by s false (Some v) t r e = absurd cc

pub stops : (s : State) (k : Core) (t : Turn) (r : Stepped) → stopped k ≡ Some r → Answers r s s (outcome s (if k.used == k.settings.slices then ends spent else if_on k.version t))
stops s k t r e = stops_by s (k.used == k.settings.slices) k.version t r e

left_by : (u : Bool) (v : Option Version) → (if u then Some stepped.Spent else stopped_at v) ≡ None → u ≡ false
left_by true v e = absurd cc
left_by false v e = refl

-- some of the budget is left
pub budget_left : (k : Core) → stopped k ≡ None → k.used ≤ k.settings.slices → k.used < k.settings.slices
budget_left k e h = let t = left_by (k.used == k.settings.slices) k.version e in grind (arith, nat_tests, t, h)
