-- What `play` and `run` answer to the bytes of their files, where nothing fails.
use Rattle.std.specs.Prelude.{◌≡◌, ℕ, List, length, Result, Ok, Err, codes}
use Rattle.dc_base.specs.declared.images.Image.{Image}
use Rattle.dc_base.specs.declared.actions.Actor.{Actor}
use Rattle.dc_base.specs.declared.actions.Action.{Action}
use Rattle.dc_base.specs.declared.commands.Bounds.{Bounds}
use Rattle.dc_base.specs.declared.commands.ScriptLine.{ScriptLine}
use Rattle.dc_base.specs.declared.faults.TextFault.{TextFault}
use Rattle.dc_base.specs.Results.{◌>>=◌, fault_as}
use Rattle.dc_base.specs.FaultText.{ImageRefusal, text_fault_line, image_fault_line}
use Rattle.dc_base.specs.PlayText.{IsRunText, play_text}
use Rattle.dc_base.specs.ScriptText.{script_of, schedule_of}
use Rattle.dc_image.specs.ImageOf.{image_of}
use Rattle.dc_top.specs.BadInputs.{Verdict, told}

abbrev pub done : List ℕ → Verdict
done text = record { status = 0; text = text }

-- the verdict of either side
abbrev pub either_verdict : Result Verdict Verdict → Verdict
either_verdict (Ok v) = v
either_verdict (Err v) = v

abbrev pub image_refused : ImageRefusal → Verdict
image_refused refusal = told 2 (image_fault_line refusal)

-- the image of a file, or the refusal of the file
unfoldable pub image_read : List ℕ → Result Image Verdict
image_read bytes = fault_as image_refused (image_of bytes)

abbrev pub bounds_of : Image → Bounds
bounds_of image = record { cores = length image.cores; blocks = length image.blocks; lines = image.lines }

abbrev pub script_refused : TextFault → Verdict
script_refused fault = told 3 (text_fault_line (codes "script") fault)

-- the script of a file, or the refusal of the file
unfoldable pub script_read : Bounds → List ℕ → Result (List ScriptLine) Verdict
script_read bounds bytes = fault_as script_refused (script_of bounds bytes)

abbrev pub schedule_refused : TextFault → Verdict
schedule_refused fault = told 4 (text_fault_line (codes "schedule") fault)

-- the schedule of a file, or the refusal of the file
unfoldable pub schedule_read : Bounds → List ℕ → Result (List (Actor × Action)) Verdict
schedule_read bounds bytes = fault_as schedule_refused (schedule_of bounds bytes)

-- an image, and a script for it
pub record Inputs : Type 0 where
  pub image : Image
  pub script : List ScriptLine

-- what the bytes of two files are, or the refusal of the first that is refused
unfoldable pub inputs_read : (image script : List ℕ) → Result Inputs Verdict
inputs_read image script = image_read image >>= (λ i. script_read (bounds_of i) script >>= (λ s. Ok (record { image = i; script = s })))

-- the whole text of the run, or the line of the first file that is refused
unfoldable pub play_verdict : (image script schedule : List ℕ) → Verdict
play_verdict image script schedule =
    either_verdict (inputs_read image script >>= (λ m. schedule_read (bounds_of m.image) schedule >>= (λ a. Ok (done (play_text m.image m.script a)))))

-- a text that a run of the two files may have, or the line of the first file that is refused
pub data IsRunVerdict (image script : List ℕ) (v : Verdict) : Type 0 where
  runs : (m : Inputs) → inputs_read image script ≡ Ok m → v.status ≡ 0 → IsRunText m.image m.script v.text → IsRunVerdict image script v
  refused : inputs_read image script ≡ Err v → IsRunVerdict image script v
