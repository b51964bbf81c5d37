-- What the top calls promise.
use Rattle.std.specs.Prelude.{◌≡◌, ◌⊎◌, ◌≤◌, ◌<◌, ℕ, List, ◌++◌, length, map, take, Option, Some, Ok, IsOk}
use Rattle.std.specs.List.{range_with_len}
use Rattle.dc_base.specs.declared.images.Image.{Image}
use Rattle.dc_base.specs.declared.actions.Actor.{Actor}
use Rattle.dc_base.specs.declared.actions.Action.{Action}
use Rattle.dc_base.specs.declared.commands.ScriptLine.{ScriptLine}
use Rattle.dc_base.specs.declared.entries.Entry.{Entry}
use Rattle.dc_base.specs.declared.reports.ReportLine.{ReportLine}
use Rattle.dc_base.specs.TextWords.{lines_of, ended}
use Rattle.dc_base.specs.EntryText.{journal_text}
use Rattle.dc_base.specs.JournalText.{journal_of, ticket_of}
use Rattle.dc_base.specs.ReportText.{report_text, skipped_text, end_text}
use Rattle.dc_base.specs.FaultText.{read_fault_line}
use Rattle.dc_base.specs.CoreRuns.{core_run}
use Rattle.dc_base.specs.Headline.{IsReportedRun}
use Rattle.dc_io.specs.Counts.{Rose}
use Rattle.dc_io.specs.Told.{Adds, AddsPrefix}
use Rattle.dc_top.specs.BadInputs.{Verdict}
use Rattle.dc_top.specs.Contents.{Contents}
use Rattle.dc_top.specs.Verdict.{Inputs, bounds_of, play_verdict, inputs_read, image_read, schedule_read}

-- the counts of faults before and after a call, and what the sink told
pub record Call : Type 0 where
  pub shelf_faults : ℕ
  pub shelf_faults_after : ℕ
  pub sink_faults : ℕ
  pub sink_faults_after : ℕ
  pub told : Option (List ℕ)
  pub told_after : Option (List ℕ)

-- which of three files a read fault names: each file before it was loaded and accepted
pub data FaultOf (image script schedule : List ℕ) (bytes : Contents) : List ℕ → Type 0 where
  at_image : FaultOf image script schedule bytes image
  at_script : IsOk (image_read bytes.image) → FaultOf image script schedule bytes script
  at_schedule : IsOk (inputs_read bytes.image bytes.script) → FaultOf image script schedule bytes schedule

-- Each status has its cause, and what was written with it: a verdict, or that a file could not be read.
pub data Answers (IsVerdict : Verdict → Type 0) (IsFault : List ℕ → Type 0) (call : Call) : ℕ → Type 0 where
  -- the whole text, or the line of the first file that is refused
  verdict : (v : Verdict) → IsVerdict v → Adds call.told call.told_after v.text → Answers IsVerdict IsFault call v.status
  read_fault : (name : List ℕ) → IsFault name → Rose call.shelf_faults call.shelf_faults_after →
      Adds call.told call.told_after (ended (read_fault_line name)) → Answers IsVerdict IsFault call 5
  -- a part of what belongs to one of the two above
  write_fault : (v : Verdict) → IsVerdict v → Rose call.sink_faults call.sink_faults_after → AddsPrefix call.told call.told_after v.text →
      Answers IsVerdict IsFault call 6
  both_faults : (name : List ℕ) → IsFault name → Rose call.shelf_faults call.shelf_faults_after → Rose call.sink_faults call.sink_faults_after →
      AddsPrefix call.told call.told_after (ended (read_fault_line name)) → Answers IsVerdict IsFault call 6
  no_memory : call.told_after ≡ call.told → Answers IsVerdict IsFault call 7

-- the verdict of a play of three files, by their names and their bytes
abbrev pub PlayAnswers : (image script schedule : List ℕ) → Contents → Call → ℕ → Type 0
PlayAnswers image script schedule bytes call status =
    Answers (λ v. v ≡ play_verdict bytes.image bytes.script bytes.schedule) (FaultOf image script schedule bytes) call status

-- 0, or 2 to 7
abbrev pub IsPlayStatus : ℕ → Type 0
IsPlayStatus status = (status ≡ 0) ⊎ ((1 < status) × (status ≤ 7))

-- a text that is a journal, its report and this rest: the journal, read back, is a run of the image and the script up to what the report shows
pub record IsReportedText (image : Image) (script : List ScriptLine) (rest text : List ℕ) : Type 0 where
  pub journal : List Entry
  pub report : List ReportLine
  pub spelled : text ≡ journal_text journal ++ report_text report ++ rest
  pub read : journal_of text ≡ Ok journal
  -- the lines of the journal begin with 0, 1 and on, in order
  pub tickets : map ticket_of (take (length journal) (lines_of text)) ≡ map Some (range_with_len 0 (length journal))
  pub reported : IsReportedRun image script journal report

-- what stands behind the report of a play: how many actions were skipped, and the end
abbrev pub behind_play : ℕ → List ℕ
behind_play skipped = ended (skipped_text skipped) ++ ended end_text

-- the text tells a run of the machine that the first two files describe, and how many actions of the third were skipped
pub record TellsPlay (image script schedule text : List ℕ) : Type 0 where
  pub machine : Inputs
  pub actions : List (Actor × Action)
  pub described : inputs_read image script ≡ Ok machine
  pub scheduled : schedule_read (bounds_of machine.image) schedule ≡ Ok actions
  pub told : IsReportedText machine.image machine.script (behind_play (core_run machine.image machine.script actions).skipped) text

-- where the bytes taken so far are told, this holds of what the call has written
abbrev pub Wrote : (before after : Option (List ℕ)) → (List ℕ → Type 0) → Type 0
Wrote before after P = (taken : List ℕ) → before ≡ Some taken → (text : List ℕ) × (after ≡ Some (taken ++ text)) × P text
