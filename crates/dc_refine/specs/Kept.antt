-- That the machine with cores keeps soundness, as a premise of the laws over whole runs.
use Rattle.std.specs.Prelude.{◌≡◌, ℕ, List}
use Rattle.dc_base.specs.declared.actions.Actor.{Actor}
use Rattle.dc_base.specs.declared.actions.Action.{Action}
use Rattle.dc_base.specs.declared.entries.Entry.{Entry}
use Rattle.dc_base.specs.States.{State}
use Rattle.dc_base.specs.Changes.{Change, apply}
use Rattle.dc_base.specs.Turns.{did}
use Rattle.dc_base.specs.Cores.{core_step}
use Rattle.dc_base.specs.Sound.{IsSound}

-- each action of each actor leads from a sound state to a sound state
abbrev pub SoundnessStays : Type 0
SoundnessStays =
    (s : State) (polls : ℕ) (who : Actor) (a : Action) (changes : List Change) (e : Entry) → IsSound s → core_step s polls who a ≡ did changes e →
    IsSound (apply s changes)
