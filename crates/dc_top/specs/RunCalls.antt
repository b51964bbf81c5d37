-- What `run` promises.
use Rattle.std.specs.Prelude.{◌≡◌, ◌≢◌, ℕ, List, Option, Ok, IsOk}
use Rattle.dc_base.specs.declared.commands.ScriptLine.{ScriptLine}
use Rattle.dc_base.specs.declared.images.Image.{Image}
use Rattle.dc_base.specs.PlayText.{IsRunText}
use Rattle.dc_base.specs.ReportText.{end_text}
use Rattle.dc_base.specs.TextWords.{ended}
use Rattle.dc_top.specs.Calls.{Answers, Call, IsPlayStatus, IsReportedText}
use Rattle.dc_top.specs.Verdict.{Inputs, IsRunVerdict, image_read, inputs_read}

-- which of two files a read fault names: each file before it was loaded and accepted
pub data InputFaultOf (image script image_bytes : List ℕ) : List ℕ → Type 0 where
  at_image : InputFaultOf image script image_bytes image
  at_script : IsOk (image_read image_bytes) → InputFaultOf image script image_bytes script

-- a verdict of a run of two files, by their names and their bytes
abbrev pub RunAnswers : (image script image_bytes script_bytes : List ℕ) → Call → ℕ → Type 0
RunAnswers image script image_bytes script_bytes call status =
    Answers (IsRunVerdict image_bytes script_bytes) (InputFaultOf image script image_bytes) call status

-- 0, 2, 3, or 5 to 7
abbrev pub IsRunStatus : ℕ → Type 0
IsRunStatus status = IsPlayStatus status × (status ≢ 4)

-- the text is one that a run of the image and the script may have, and tells that run
pub record TellsRunOf (image : Image) (script : List ScriptLine) (text : List ℕ) : Type 0 where
  pub run : IsRunText image script text
  pub told : IsReportedText image script (ended end_text) text

-- the text tells a run of the machine that the two files describe
pub record TellsRun (image script text : List ℕ) : Type 0 where
  pub machine : Inputs
  pub described : inputs_read image script ≡ Ok machine
  pub told : TellsRunOf machine.image machine.script text
