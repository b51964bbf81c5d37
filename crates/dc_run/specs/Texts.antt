-- The text of a run, and how it was written: whole, or a part of it, where a put failed, or nothing, where memory was wanting.
use Rattle.std.specs.Prelude.{◌≡◌, ◌≤◌, ◌^◌, ℕ, List, ◌++◌, length, Option, Result, Ok, Err}
use Rattle.dc_base.specs.declared.commands.ScriptLine.{ScriptLine}
use Rattle.dc_base.specs.declared.entries.Entry.{Entry}
use Rattle.dc_base.specs.declared.images.Image.{Image}
use Rattle.dc_base.specs.CoreRuns.{core_run, own_schedule}
use Rattle.dc_base.specs.EntryText.{journal_text}
use Rattle.dc_base.specs.PlayText.{IsRunJournal, IsRunText}
use Rattle.dc_base.specs.Report.{report_lines}
use Rattle.dc_base.specs.ReportText.{report_text, end_text}
use Rattle.dc_base.specs.States.{State}
use Rattle.dc_base.specs.TextWords.{ended}
use Rattle.dc_io.specs.declared.sinks.Ended.{Ended}
use Rattle.dc_io.specs.declared.sinks.Ended.TheVariants as how
use Rattle.dc_io.specs.Counts.{Rose}
use Rattle.dc_io.specs.Told.{Adds, AddsPrefix}

-- the text of this journal and of the report of this state
abbrev pub text_of : List Entry → State → List ℕ
text_of journal s = journal_text journal ++ report_text (report_lines s) ++ ended end_text

-- the text of a run that has this journal
abbrev pub run_text : Image → List ScriptLine → List Entry → List ℕ
run_text image lines journal = text_of journal (core_run image lines (own_schedule lines journal)).state

-- the ticket of each entry has at most ten digits
abbrev pub IsShort : List Entry → Type 0
IsShort journal = length journal ≤ 10 ^ 10

abbrev pub Runs : {T : Type 0} → Image → List ScriptLine → (faults faults_after : ℕ) → (told told_after : Option (List ℕ)) → Result T Ended → Type 0
Runs image lines faults faults_after told told_after (Ok x) =
    (journal : List Entry) × IsRunJournal image lines journal × IsShort journal × Adds told told_after (run_text image lines journal)
Runs image lines faults faults_after told told_after (Err how.Sink) =
    Rose faults faults_after × ((text : List ℕ) × IsRunText image lines text × AddsPrefix told told_after text)
Runs image lines faults faults_after told told_after (Err how.Memory) = told_after ≡ told
