-- The first bad entry of a journal.
use Rattle.std.specs.Prelude.{◌≡◌, ℕ, ◌+◌, ◌<◌, List, IsTrue, false, take, length}
use Rattle.dc_base.specs.declared.images.Image.{Image}
use Rattle.dc_base.specs.declared.commands.ScriptLine.{ScriptLine}
use Rattle.dc_base.specs.declared.entries.Entry.{Entry}
use Rattle.dc_base.specs.Runs.{run_of}

-- the entries before this ticket are a run, and with its entry they are none
pub record IsFirstBad (image : Image) (script : List ScriptLine) (journal : List Entry) (ticket : ℕ) : Type 0 where
  pub within : ticket < length journal
  pub before : IsTrue (run_of image script (take ticket journal))
  pub bad : run_of image script (take (ticket + 1) journal) ≡ false
