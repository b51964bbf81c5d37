-- What an await makes of the script, with its console, whatever stands elsewhere.
use Rattle.std.specs.Prelude.{◌≡◌, ℕ, List, [], ◌∷◌, Some, slice_get}
use Rattle.dc_base.specs.declared.actions.Action.TheVariants as action
use Rattle.dc_base.specs.declared.actions.Actor.TheVariants as actor
use Rattle.dc_base.specs.declared.entries.Entry.{Entry}
use Rattle.dc_base.specs.declared.entries.Reason.{Reason}
use Rattle.dc_base.specs.Changes.{script_becomes}
use Rattle.dc_base.specs.Cores.{turn_of}
use Rattle.dc_base.specs.States.{State, Script}
use Rattle.dc_base.specs.Turns.{did, not_enabled, outcome}

-- after so many polls the await at which the script stands took it from the first to the second
abbrev pub IsAwaited : ℕ → Script → Script → List ℕ → ℕ → Entry → Type 0
IsAwaited b t t' ws made e = (s : State) → s.script ≡ t → slice_get s.consoles b ≡ Some ws → (polls : Script → ℕ) → polls t ≡ made →
    outcome s (turn_of polls actor.Script action.Script) ≡ did (script_becomes t' ∷ []) e

-- after so many polls one more of its console finds too few words
abbrev pub IsPoll : ℕ → Script → List ℕ → ℕ → Reason → Type 0
IsPoll b t ws made why = (s : State) → s.script ≡ t → slice_get s.consoles b ≡ Some ws → (polls : Script → ℕ) → polls t ≡ made →
    outcome s (turn_of polls actor.Script action.Script) ≡ not_enabled why
