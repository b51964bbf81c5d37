-- What the actions of a core have in common.
use Rattle.std.proofs.Common.{◌≡◌, ℕ, Option, Some, None, refl}
use Rattle.std.specs.Prelude.{slice_get}
use Rattle.dc_base.specs.declared.actions.Action.{Action}
use Rattle.dc_base.specs.declared.actions.Action.TheVariants as action
use Rattle.dc_base.specs.declared.actions.Actor.TheVariants as actor
use Rattle.dc_base.specs.declared.numbers.CoreNo.{CoreNo}
use Rattle.dc_base.specs.Cores.{core_step, core_turn, turn_of}
use Rattle.dc_base.specs.States.{State, Core}
use Rattle.dc_base.specs.Turns.{outcome}
use Rattle.dc_bodies.specs.declared.stops.Stepped.{Stepped}
use Rattle.dc_machine.specs.Answers.{Answers, IsQuiet, polls_then}
use Rattle.dc_machine.proofs.ScriptTurns.{quiet_other}

-- a core does not look at polls
pub core_alike : (s : State) (p : ℕ) (c : CoreNo) (a : Action) → core_step s p (actor.Core c) a ≡ core_step s 0 (actor.Core c) a
unfolding core_step turn_of
core_alike s p c a = refl

script_leaves : (s : State) (c : CoreNo) (p : ℕ) (o : Option Core) → p ≡ polls_then action.Script p (outcome s (core_turn c.0 action.Script o))
script_leaves s c p None = refl
script_leaves s c p (Some k) = refl

-- an action of a core leaves the polls as they are
pub core_leaves : (s new : State) (c : CoreNo) (a : Action) (p : ℕ) (r : Stepped) → Answers r s new (core_step s 0 (actor.Core c) a) → IsQuiet r → p ≡ polls_then a p (core_step s p (actor.Core c) a)
unfolding core_step turn_of
core_leaves s new c action.Step p r h q = quiet_other action.Step r s new p (core_step s 0 (actor.Core c) action.Step) (λ n. refl) h q
core_leaves s new c action.Order p r h q = quiet_other action.Order r s new p (core_step s 0 (actor.Core c) action.Order) (λ n. refl) h q
core_leaves s new c (action.Intake l) p r h q = quiet_other (action.Intake l) r s new p (core_step s 0 (actor.Core c) (action.Intake l)) (λ n. refl) h q
core_leaves s new c (action.Wake b d) p r h q = quiet_other (action.Wake b d) r s new p (core_step s 0 (actor.Core c) (action.Wake b d)) (λ n. refl) h q
core_leaves s new c action.Script p r h q = script_leaves s c p (slice_get s.cores c.0)
core_leaves s new c action.Raise p r h q = quiet_other action.Raise r s new p (core_step s 0 (actor.Core c) action.Raise) (λ n. refl) h q

pub raise_leaves : (s new : State) (p : ℕ) (r : Stepped) → Answers r s new (core_step s p actor.Script action.Raise) → IsQuiet r → p ≡ polls_then action.Raise p (core_step s p actor.Script action.Raise)
raise_leaves s new p r h q = quiet_other action.Raise r s new p (core_step s p actor.Script action.Raise) (λ n. refl) h q
