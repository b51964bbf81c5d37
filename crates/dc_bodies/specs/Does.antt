-- What an action of an actor comes to in a state, however many polls were made.
use Rattle.std.specs.Prelude.{◌≡◌, ℕ, List}
use Rattle.dc_base.specs.declared.actions.Action.{Action}
use Rattle.dc_base.specs.declared.actions.Actor.{Actor}
use Rattle.dc_base.specs.declared.entries.Entry.{Entry}
use Rattle.dc_base.specs.declared.entries.Reason.{Reason}
use Rattle.dc_base.specs.Changes.{Change}
use Rattle.dc_base.specs.Cores.{turn_of}
use Rattle.dc_base.specs.States.{State, Script}
use Rattle.dc_base.specs.Turns.{did, not_enabled, outcome}

-- it makes these changes and this entry
abbrev pub Does : State → Actor → Action → List Change → Entry → Type 0
Does s who a changes e = (polls : Script → ℕ) → outcome s (turn_of polls who a) ≡ did changes e

-- it is not enabled, for this reason
abbrev pub Refuses : State → Actor → Action → Reason → Type 0
Refuses s who a why = (polls : Script → ℕ) → outcome s (turn_of polls who a) ≡ not_enabled why
