-- Whether the entries of a run touch just what the table says.
use Rattle.std.specs.Prelude.{List, [], ◌∷◌, Bool, true, ◌&&◌}
use Rattle.std.specs.List.{list_any, list_all}
use Rattle.dc_base.specs.declared.actions.Actor.{Actor}
use Rattle.dc_base.specs.declared.actions.Action.{Action}
use Rattle.dc_base.specs.declared.images.Image.{Image}
use Rattle.dc_base.specs.declared.commands.ScriptLine.{ScriptLine}
use Rattle.dc_base.specs.declared.entries.Entry.{Entry}
use Rattle.dc_base.specs.States.{State, core_start}
use Rattle.dc_base.specs.Changes.{Name, same_name}
use Rattle.dc_base.specs.Turns.{Outcome, did}
use Rattle.dc_base.specs.Cores.{core_step}
use Rattle.dc_base.specs.CoreRuns.{Run, after_outcome}
use Rattle.dc_base.specs.Histories.{touched}
use Rattle.dc_base.specs.TouchTable.{tabled_touches}

abbrev pub within : List Name → List Name → Bool
within ns ms = list_all (λ n. list_any (same_name n) ms) ns

abbrev pub as_tabled : State → Entry → Bool
as_tabled s e = within (touched s e) (tabled_touches s e) && within (tabled_touches s e) (touched s e)

abbrev pub tabled_after : Run → Action → Outcome → (Run → Bool) → Bool
tabled_after r a (did chs e) more = as_tabled r.state e && more (after_outcome r a (did chs e))
tabled_after r a o more = more (after_outcome r a o)

abbrev pub tabled_from : Run → List (Actor × Action) → Bool
tabled_from r [] = true
tabled_from r (a ∷ more) = tabled_after r a.1 (core_step r.state r.polls a.0 a.1) (λ next. tabled_from next more)

-- whether each entry of the run touches what the table says
abbrev pub tabled : Image → List ScriptLine → List (Actor × Action) → Bool
tabled image lines schedule = tabled_from (record { state = core_start image lines; polls = 0; journal = []; skipped = 0 }) schedule
