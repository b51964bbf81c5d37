-- A schedule that is played without its text, so far.
use Rattle.std.specs.Prelude.{◌≤◌, ℕ, List, None}
use Rattle.dc_base.specs.declared.actions.Actor.{Actor}
use Rattle.dc_base.specs.declared.actions.Action.{Action}
use Rattle.dc_base.specs.Sound.{IsSound}
use Rattle.dc_base.specs.States.{State}
use Rattle.dc_play.specs.Played.{IsSized}
use Rattle.dc_play.specs.Playing.{IsPlaying}

-- so far: the actions before this one were made and counted, and the state is sound
pub record IsCounting (start : State) (schedule : List (Actor × Action)) (i : ℕ) (state : State) (polls entries skipped : ℕ) : Type 0 where
  pub playing : IsPlaying start schedule i None None state polls entries skipped
  pub sound : IsSound state
  pub sized : IsSized start.script.settings state
  pub polls_few : polls ≤ 1000000000
  pub entries_few : entries ≤ i
  pub skipped_few : skipped ≤ i
