-- What an action answers, from what its turn comes to.
use Rattle.std.proofs.Common.{◌≡◌, ℕ, List, [], ◌∷◌, refl, sym, subst}
use Rattle.dc_base.specs.declared.actions.Action.{Action}
use Rattle.dc_base.specs.declared.actions.Action.TheVariants as action
use Rattle.dc_base.specs.declared.actions.Actor.{Actor}
use Rattle.dc_base.specs.declared.actions.Actor.TheVariants as actor
use Rattle.dc_base.specs.declared.entries.Entry.{Entry}
use Rattle.dc_base.specs.declared.entries.Reason.{Reason}
use Rattle.dc_base.specs.Changes.{Change, apply, script_becomes}
use Rattle.dc_base.specs.Cores.{core_step, turn_of}
use Rattle.dc_base.specs.States.{State, Script}
use Rattle.dc_base.specs.Turns.{did, not_enabled, outcome}
use Rattle.dc_bodies.specs.declared.stops.Stepped.TheVariants as stepped
use Rattle.dc_bodies.specs.Does.{Does, Refuses}
use Rattle.dc_machine.specs.Answers.{Answers}

pub did_answers : (s : State) (who : Actor) (a : Action) (changes : List Change) (e : Entry) → Does s who a changes e → (polls : ℕ) → Answers (stepped.Did e) s (apply s changes) (core_step s polls who a)
unfolding core_step
did_answers s who a changes e h polls = subst (Answers (stepped.Did e) s (apply s changes)) (sym (h (λ t. polls))) (refl, refl)

pub none_answers : (s : State) (who : Actor) (a : Action) (why : Reason) → Refuses s who a why → (polls : ℕ) → Answers (stepped.NotEnabled why) s s (core_step s polls who a)
unfolding core_step
none_answers s who a why h polls = subst (Answers (stepped.NotEnabled why) s s) (sym (h (λ t. polls))) (refl, refl)

pub none_step : (s : State) (who : Actor) (a : Action) (why : Reason) → Refuses s who a why → (polls : ℕ) → core_step s polls who a ≡ not_enabled why
unfolding core_step
none_step s who a why h polls = h (λ t. polls)

-- an await, after so many polls

pub awaited_step : (s : State) (t : Script) (e : Entry) (made : ℕ) → ((polls : Script → ℕ) → polls s.script ≡ made → outcome s (turn_of polls actor.Script action.Script) ≡ did (script_becomes t ∷ []) e) →
    core_step s made actor.Script action.Script ≡ did (script_becomes t ∷ []) e
unfolding core_step
awaited_step s t e made h = h (λ t. made) refl

pub polled_step : (s : State) (why : Reason) (made : ℕ) → ((polls : Script → ℕ) → polls s.script ≡ made → outcome s (turn_of polls actor.Script action.Script) ≡ not_enabled why) → core_step s made actor.Script action.Script ≡ not_enabled why
unfolding core_step
polled_step s why made h = h (λ t. made) refl
