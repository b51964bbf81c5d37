-- What each entry of a run touches, by name and by number.
use Rattle.std.specs.Prelude.{ℕ, List, [], ◌∷◌}
use Rattle.dc_base.specs.declared.actions.Actor.{Actor}
use Rattle.dc_base.specs.declared.actions.Action.{Action}
use Rattle.dc_base.specs.declared.images.Image.{Image}
use Rattle.dc_base.specs.declared.commands.ScriptLine.{ScriptLine}
use Rattle.dc_base.specs.Changes.{Name}
use Rattle.dc_base.specs.States.{core_start}
use Rattle.dc_base.specs.Turns.{Outcome, did}
use Rattle.dc_base.specs.Cores.{core_step}
use Rattle.dc_base.specs.CoreRuns.{Run, after_outcome}
use Rattle.dc_base.specs.Histories.{touched}
use Rattle.dc_base.specs.Objects.{touched_numbers}

abbrev pub touches_after : Run → Action → Outcome → (Run → List (List Name × List ℕ)) → List (List Name × List ℕ)
touches_after r a (did chs e) more = (touched r.state e, touched_numbers r.state.script.settings r.state e) ∷ more (after_outcome r a (did chs e))
touches_after r a o more = more (after_outcome r a o)

abbrev pub touches_from : Run → List (Actor × Action) → List (List Name × List ℕ)
touches_from r [] = []
touches_from r (a ∷ more) = touches_after r a.1 (core_step r.state r.polls a.0 a.1) (λ next. touches_from next more)

abbrev pub touches : Image → List ScriptLine → List (Actor × Action) → List (List Name × List ℕ)
touches image lines schedule = touches_from (record { state = core_start image lines; polls = 0; journal = []; skipped = 0 }) schedule
