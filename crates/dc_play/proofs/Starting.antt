-- The run of a play begins at the start of its machine.
use Rattle.std.proofs.Common.{◌≡◌, List, refl, ap, sym, subst}
use Rattle.dc_base.specs.declared.actions.Actor.{Actor}
use Rattle.dc_base.specs.declared.actions.Action.{Action}
use Rattle.dc_base.specs.declared.commands.ScriptLine.{ScriptLine}
use Rattle.dc_base.specs.declared.images.Image.{Image}
use Rattle.dc_base.specs.CoreRuns.{core_run, core_run_from}
use Rattle.dc_base.specs.PlayText.{played_text, play_text}
use Rattle.dc_base.specs.States.{State, Settings, core_start, settings_of}
use Rattle.dc_base.specs.Valid.{IsValidSchedule}

pub start_settings : (image : Image) (script : List ScriptLine) → (core_start image script).script.settings ≡ settings_of image
unfolding core_start
start_settings image script = refl

module _ (image : Image) (script : List ScriptLine) (schedule : List (Actor × Action)) (s : State) (h : s ≡ core_start image script) where
  pub fits_the_start : IsValidSchedule (settings_of image) schedule → IsValidSchedule s.script.settings schedule
  fits_the_start p = subst (λ (t : State). IsValidSchedule t.script.settings schedule) (sym h) (subst (λ (t : Settings). IsValidSchedule t schedule) (sym (start_settings image script)) p)

  pub text_of_run : played_text (core_run_from s schedule) ≡ play_text image script schedule
  unfolding play_text core_run
  text_of_run = ap (λ (t : State). played_text (core_run_from t schedule)) h
