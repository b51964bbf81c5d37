-- What an entry of the machine with cores must lead to.
use Rattle.std.specs.Prelude.{◌≡◌, List, Some}
use Rattle.dc_base.specs.declared.commands.ScriptLine.{ScriptLine}
use Rattle.dc_base.specs.declared.entries.Entry.{Entry}
use Rattle.dc_base.specs.States.{State}
use Rattle.dc_base.specs.StandsFor.{StandsFor}
use Rattle.dc_base.specs.Runs.{Terms, Seen, run_step}
use Rattle.dc_base.specs.Telling.{Agrees}

-- the entry is a step of a run from what was seen, to what agrees with the state after it and stands for it
pub record Follows (terms : Terms) (lines : List ScriptLine) (n : Seen) (e : Entry) (after : State) : Type 0 where
  pub next : Seen
  pub step : run_step terms lines n e ≡ Some next
  pub stands : StandsFor after next.blocks
  pub agrees : Agrees after next
