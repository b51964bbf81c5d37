-- What is told where nothing is played.
use Rattle.std.specs.Prelude.{ℕ, List, [], ◌∷◌, Option, Some, None, codes}
use Rattle.dc_base.specs.TextWords.{ended}
use Rattle.dc_base.specs.FaultText.{ImageRefusal, text_fault_line, image_fault_line, usage_line, play_form, run_form, gen_form}
use Rattle.dc_image.specs.Faults.{refusal_of}
use Rattle.dc_top.specs.declared.bad_inputs.BadInput.{BadInput}
use Rattle.dc_top.specs.declared.bad_inputs.BadInput.TheVariants as why

-- a status and what is written
pub record Verdict : Type 0 where
  pub status : ℕ
  pub text : List ℕ

-- a status with one line
abbrev pub told : ℕ → List ℕ → Verdict
told status line = record { status = status; text = ended line }

abbrev pub usage : List ℕ
usage = usage_line (play_form ∷ run_form ∷ gen_form ∷ [])

abbrev pub image_line : Option ImageRefusal → List ℕ
image_line None = []
image_line (Some r) = image_fault_line r

-- the line of a file that is refused; none for want of memory
abbrev pub line_of : BadInput → List ℕ
line_of (why.Image f) = image_line (refusal_of f)
line_of (why.Script f) = text_fault_line (codes "script") f
line_of (why.Schedule f) = text_fault_line (codes "schedule") f

-- 2, 3 and 4 for the image, the script and the schedule
abbrev pub status_of : BadInput → ℕ
status_of (why.Image f) = 2
status_of (why.Script f) = 3
status_of (why.Schedule f) = 4
