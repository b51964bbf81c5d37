-- Scripts and schedules, read.
use Rattle.std.specs.Prelude.{◌≡◌, List, [], ◌∷◌, codes, map, refl, replicate, Ok, Err}
use Prim.Native.String.{String}
use Rattle.dc_base.specs.declared.kernels.Version.TheVariants.{Rr, Edf}
use Rattle.dc_base.specs.declared.commands.Bounds.{Bounds}
use Rattle.dc_base.specs.declared.faults.TextKind.{TextKind}
use Rattle.dc_base.specs.declared.faults.TextKind.TheVariants as fault
use Rattle.dc_base.specs.declared.faults.TextFault.TheVariants.{Bad}
use Rattle.dc_base.specs.ScriptText.{script_of, schedule_of, text_read, script_line as line_of}
use Rattle.dc_rows.specs.Computed.{read_scripts}
use Rattle.dc_rows.specs.Scripts as script_line
use Rattle.dc_rows.specs.Texts as texts

abbrev bounds : Bounds
bounds = record { cores = 2; blocks = 3; lines = 1 }

script_is_read : script_of bounds (texts.lines (
    "move 0 1"
    ∷ ""
    ∷ "# c"
    ∷ "park 2 0"
    ∷ "  "
    ∷ "await 0 1 2"
    ∷ "raise 0"
    ∷ "route 0 1"
    ∷ "start 1 edf"
    ∷ "stop 0"
    ∷ "replace 0 rr"
    ∷ "attach 1 1"
    ∷ "unpark 2 1"
    ∷ []))
    ≡ Ok (
    script_line.move 0 1 ∷ script_line.park 2 0 ∷ script_line.await 0 1 2 ∷ script_line.raise 0 ∷ script_line.route 0 1 ∷ script_line.start 1 Edf
    ∷ script_line.stop 0 ∷ script_line.replace 0 Rr ∷ script_line.attach 1 1 ∷ script_line.unpark 2 1 ∷ [])
unfolding read_scripts
script_is_read = refl

schedule_is_read : schedule_of bounds (texts.lines (
    "core 0 step"
    ∷ "core 1 order"
    ∷ "core 0 intake 0"
    ∷ "core 1 wake 2 15"
    ∷ "script"
    ∷ "raise"
    ∷ []))
    ≡ Ok (
    texts.step 0 ∷ texts.order 1 ∷ texts.intake 0 0 ∷ texts.wake 1 2 15
    ∷ texts.script ∷ texts.raise ∷ [])
unfolding read_scripts
schedule_is_read = refl

-- a text of one line that is refused, and why
record Row : Type 0 where
  text : String
  kind : TextKind

abbrev row : String → TextKind → Row
row text kind = record { text = text; kind = kind }

abbrev bad_scripts : List Row
bad_scripts =
    row "start 9 rr" fault.BadNumber
    ∷ row "await 0 1 0" fault.BadNumber
    ∷ row "move 0" fault.WrongCount
    ∷ row "start 0 xx" fault.BadVersion
    ∷ row "start 9 xx" fault.BadNumber
    ∷ row "start 0" fault.WrongCount
    ∷ row "step" fault.UnknownWord
    ∷ row "move 0 1 1" fault.WrongCount
    ∷ row "await 0 65537 1" fault.BadNumber
    ∷ row "await 0 65536 1000000001" fault.BadNumber
    ∷ row "raise 1" fault.BadNumber
    ∷ row "move 00000000000 1" fault.BadNumber
    ∷ row "move x 1" fault.BadNumber
    ∷ row " # x" fault.UnknownWord
    ∷ row "move +0 1" fault.BadNumber
    ∷ []

are_no_scripts : map (λ (r : Row). script_of bounds (codes r.text)) bad_scripts ≡ map (λ (r : Row). Err (Bad 1 r.kind)) bad_scripts
unfolding read_scripts
are_no_scripts = refl

abbrev bad_schedules : List Row
bad_schedules =
    row "core 0 jump" fault.UnknownWord
    ∷ row "core" fault.WrongCount
    ∷ row "core 0" fault.WrongCount
    ∷ row "core 0 wake 0 16" fault.BadNumber
    ∷ row "core 2 step" fault.BadNumber
    ∷ row "core 0 step 1" fault.WrongCount
    ∷ row "core 9 jump" fault.UnknownWord
    ∷ row "script 1" fault.WrongCount
    ∷ row "steps" fault.UnknownWord
    ∷ row "core 9 wake 0" fault.WrongCount
    ∷ []

are_no_schedules : map (λ (r : Row). schedule_of bounds (codes r.text)) bad_schedules ≡ map (λ (r : Row). Err (Bad 1 r.kind)) bad_schedules
unfolding read_scripts
are_no_schedules = refl

-- the first fault is told, by the number of its line
first_fault_is_told : script_of bounds (texts.lines ("" ∷ "move 0 1" ∷ "stop 2" ∷ "stop 3" ∷ [])) ≡ Err (Bad 3 fault.BadNumber)
unfolding read_scripts
first_fault_is_told = refl

-- where three lines may count
too_many_are_refused : text_read (line_of bounds) 3 (texts.lines (replicate 4 "raise 0")) ≡ Err (Bad 4 fault.TooMany)
unfolding read_scripts
too_many_are_refused = refl
