-- A run of a schedule, action by action, and what was written of it.
use Rattle.std.specs.Prelude.{◌≡◌, ℕ, List, Option, drop, length}
use Rattle.dc_base.specs.declared.actions.Actor.{Actor}
use Rattle.dc_base.specs.declared.actions.Action.{Action}
use Rattle.dc_base.specs.EntryText.{journal_text}
use Rattle.dc_base.specs.States.{State}
use Rattle.dc_base.specs.CoreRuns.{Run, core_run_from, run_all}
use Rattle.dc_io.specs.Told.{Adds}

-- so far: the actions before this one were made, and their entries written
pub record IsPlaying (start : State) (schedule : List (Actor ×
    Action)) (i : ℕ) (told now : Option (List ℕ)) (state : State) (polls entries skipped : ℕ) : Type 0 where
  pub run : Run
  pub same_state : state ≡ run.state
  pub same_polls : polls ≡ run.polls
  pub same_entries : entries ≡ length run.journal
  pub same_skipped : skipped ≡ run.skipped
  pub rest : core_run_from start schedule ≡ run_all run (drop i schedule)
  pub text : Adds told now (journal_text run.journal)
