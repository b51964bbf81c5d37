-- What was written of a text, with its status.
use Rattle.std.specs.Prelude.{◌≡◌, ℕ, List, Option, Result, Ok, Err}
use Rattle.dc_base.specs.declared.commands.ScriptLine.{ScriptLine}
use Rattle.dc_base.specs.declared.entries.Entry.{Entry}
use Rattle.dc_base.specs.declared.images.Image.{Image}
use Rattle.dc_base.specs.PlayText.{IsRunJournal, IsRunText}
use Rattle.dc_io.specs.declared.sinks.Failed.{Failed}
use Rattle.dc_io.specs.declared.sinks.Ended.{Ended}
use Rattle.dc_io.specs.declared.sinks.Ended.TheVariants as ended
use Rattle.dc_io.specs.Counts.{Rose}
use Rattle.dc_io.specs.Told.{Adds, AddsPrefix}
use Rattle.dc_run.specs.Texts.{IsShort, run_text}

-- the status where the text was written whole, and 6 where a put failed
abbrev pub status_for : {T : Type 0} → Result T Failed → ℕ → ℕ
status_for (Ok x) status = status
status_for (Err failed) status = 6

-- a text was written with this status, or a part of it, where a put failed, with 6
pub data WritesAs (faults faults_after : ℕ) (told told_after : Option (List ℕ)) (status : ℕ) (text : List ℕ) : ℕ → Type 0 where
  whole : Adds told told_after text → WritesAs faults faults_after told told_after status text status
  part : Rose faults faults_after → AddsPrefix told told_after text → WritesAs faults faults_after told told_after status text 6

-- 0 where the text of a play was written whole, 6 where a put failed, and 7 where memory was wanting
abbrev pub status_of_play : {T : Type 0} → Result T Ended → ℕ
status_of_play (Ok x) = 0
status_of_play (Err ended.Sink) = 6
status_of_play (Err ended.Memory) = 7

-- a text was written with 0, or a part of it, where a put failed, with 6, or nothing, where memory was wanting, with 7
pub data PlaysAs (faults faults_after : ℕ) (told told_after : Option (List ℕ)) (text : List ℕ) : ℕ → Type 0 where
  whole_text : Adds told told_after text → PlaysAs faults faults_after told told_after text 0
  part_of_text : Rose faults faults_after → AddsPrefix told told_after text → PlaysAs faults faults_after told told_after text 6
  no_text : told_after ≡ told → PlaysAs faults faults_after told told_after text 7

-- the text of a run was written with 0, or a part of it, where a put failed, with 6, or nothing, where memory was wanting, with 7
pub data RunsAs (image : Image) (lines : List ScriptLine) (faults faults_after : ℕ) (told told_after : Option (List ℕ)) : ℕ → Type 0 where
  whole_run : (journal : List Entry) → IsRunJournal image lines journal → IsShort journal → Adds told told_after (run_text image lines journal) →
      RunsAs image lines faults faults_after told told_after 0
  part_of_run : (text : List ℕ) → IsRunText image lines text → Rose faults faults_after → AddsPrefix told told_after text →
      RunsAs image lines faults faults_after told told_after 6
  no_run : told_after ≡ told → RunsAs image lines faults faults_after told told_after 7
