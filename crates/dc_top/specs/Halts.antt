-- Why nothing is played, by the files.
use Rattle.std.specs.Prelude.{◌≡◌, ◌<◌, ℕ, length, List, Option, IfSome, Result, Ok, Err, ⊤}
use Rattle.dc_base.specs.declared.images.Image.{Image}
use Rattle.dc_base.specs.declared.actions.Actor.{Actor}
use Rattle.dc_base.specs.declared.actions.Action.{Action}
use Rattle.dc_base.specs.declared.commands.ScriptLine.{ScriptLine}
use Rattle.dc_base.specs.Limits.{longest_file}
use Rattle.dc_base.specs.TextWords.{ended}
use Rattle.dc_base.specs.FaultText.{read_fault_line}
use Rattle.dc_io.specs.Counts.{Rose}
use Rattle.dc_top.specs.declared.bad_inputs.BadInput.{BadInput}
use Rattle.dc_top.specs.declared.halts.Halt.{Halt}
use Rattle.dc_top.specs.declared.halts.Halt.TheVariants as halt
use Rattle.dc_top.specs.BadInputs.{Verdict, line_of, status_of}
use Rattle.dc_top.specs.Verdict.{bounds_of, inputs_read, schedule_read, play_verdict}
use Rattle.dc_top.specs.Contents.{Files, OfFile, OfFiles, OfInputs}
use Rattle.dc_top.specs.Calls.{FaultOf}
use Rattle.dc_top.specs.RunCalls.{InputFaultOf}
use Rattle.dc_top.specs.Written.{WritesAs}

abbrev pub verdict_of : BadInput → Verdict
verdict_of r = record { status = status_of r; text = ended (line_of r) }

-- why the file of this name is not loaded: it is too long, or it could not be read, or memory was wanting
abbrev pub MissesAt : Files → List ℕ → BadInput → (before now : ℕ) → Halt → Type 0
MissesAt files name too_long before now (halt.Refused r) = (r ≡ too_long) × IfSome files (λ f. longest_file < length (f name))
MissesAt files name too_long before now (halt.Unread n) = (n.now ≡ name) × Rose before now
MissesAt files name too_long before now halt.Memory = ⊤

-- why the file of this name does not serve: it is refused so, or it could not be read, or memory was wanting
abbrev pub HaltsAt : {A : Type 0} → Files → (List ℕ → Result A Verdict) → List ℕ → (before now : ℕ) → Halt → Type 0
HaltsAt files read name before now (halt.Refused r) = OfFile files name (λ bytes. read bytes ≡ Err (verdict_of r))
HaltsAt files read name before now (halt.Unread n) = (n.now ≡ name) × Rose before now
HaltsAt files read name before now halt.Memory = ⊤

-- why three files are not played: the first that is refused, or one that could not be read, or memory was wanting
abbrev pub Halts : Files → (image script schedule : List ℕ) → (before now : ℕ) → Halt → Type 0
Halts files image script schedule before now (halt.Refused r) =
    OfFiles files image script schedule (λ bytes. play_verdict bytes.image bytes.script bytes.schedule ≡ verdict_of r)
Halts files image script schedule before now (halt.Unread n) =
    Rose before now × OfFiles files image script schedule (λ bytes. FaultOf image script schedule bytes n.now)
Halts files image script schedule before now halt.Memory = ⊤

-- why two files are not run: the first that is refused, or one that could not be read, or memory was wanting
abbrev pub InputHalts : Files → (image script : List ℕ) → (before now : ℕ) → Halt → Type 0
InputHalts files image script before now (halt.Refused r) = OfInputs files image script (λ i s. inputs_read i s ≡ Err (verdict_of r))
InputHalts files image script before now (halt.Unread n) = Rose before now × OfInputs files image script (λ i s. InputFaultOf image script i n.now)
InputHalts files image script before now halt.Memory = ⊤

-- the line of a halt was written with its status; where memory was wanting there is none
abbrev pub HaltTold : Halt → (faults faults_after : ℕ) → (told told_after : Option (List ℕ)) → ℕ → Type 0
HaltTold (halt.Refused r) faults faults_after told told_after status = WritesAs faults faults_after told told_after (status_of r) (ended (line_of r)) status
HaltTold (halt.Unread n) faults faults_after told told_after status = WritesAs faults faults_after told told_after 5 (ended (read_fault_line n.now)) status
HaltTold halt.Memory faults faults_after told told_after status = (status ≡ 7) × (told_after ≡ told)

-- what a halt without loading says of what was read
abbrev pub RefusedBy : {A : Type 0} → Result A Verdict → Halt → Type 0
RefusedBy read (halt.Refused r) = read ≡ Err (verdict_of r)
RefusedBy read (halt.Unread n) = ⊥
RefusedBy read halt.Memory = ⊤

-- the image and the script of files that are accepted
abbrev pub AreInputs : (image script : List ℕ) → Image → List ScriptLine → Type 0
AreInputs image script i s = inputs_read image script ≡ Ok (record { image = i; script = s })

-- the image, the script and the schedule of files that are accepted
pub record IsReady (image script schedule : List ℕ) (i : Image) (s : List ScriptLine) (a : List (Actor × Action)) : Type 0 where
  pub inputs : AreInputs image script i s
  pub actions : schedule_read (bounds_of i) schedule ≡ Ok a
