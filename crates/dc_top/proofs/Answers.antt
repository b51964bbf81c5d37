-- What was written, with its status, is what a call answers.
use Rattle.std.proofs.Common.{◌≡◌, ◌⊎◌, ◌<◌, ◌≤◌, ℕ, List, [], refl, sym, ap, ◌∙◌, subst, arith, inl, inr, Option, Some, None, Result, Ok, Err}
use Rattle.std.specs.Prelude.{OnErr}
use Rattle.dc_base.specs.declared.images.Image.{Image}
use Rattle.dc_base.specs.Results.{◌>>=◌}
use Rattle.dc_base.specs.TextWords.{ended}
use Rattle.dc_base.specs.FaultText.{read_fault_line}
use Rattle.dc_io.specs.declared.sinks.Failed.{Failed}
use Rattle.dc_io.specs.declared.sinks.Ended.{Ended}
use Rattle.dc_io.specs.declared.sinks.Ended.TheVariants as end
use Rattle.dc_io.specs.Told.{Adds}
use Rattle.dc_base.specs.PlayText.{play_text}
use Rattle.dc_base.specs.declared.commands.ScriptLine.{ScriptLine}
use Rattle.dc_play.specs.Plays.{Plays}
use Rattle.dc_play.specs.Written.{Writes}
use Rattle.dc_top.specs.Written.{WritesAs, whole, part, status_for, PlaysAs, whole_text, part_of_text, no_text, status_of_play}
use Rattle.dc_io.specs.Counts.{Rose}
use Rattle.dc_top.specs.declared.halts.Halt.{Halt}
use Rattle.dc_top.specs.declared.halts.Halt.TheVariants as halt
use Rattle.dc_top.specs.declared.bad_inputs.BadInput.{BadInput}
use Rattle.dc_top.specs.declared.bad_inputs.BadInput.TheVariants as why
use Rattle.dc_top.specs.Contents.{Contents, Files, OfFiles}
use Rattle.dc_top.specs.Calls.{Answers, Call, FaultOf, IsPlayStatus, PlayAnswers, verdict, read_fault, write_fault, both_faults, no_memory}
use Rattle.dc_top.specs.Halts.{Halts, HaltTold, IsReady, verdict_of}
use Rattle.dc_top.specs.BadInputs.{Verdict, line_of, status_of}
use Rattle.dc_base.specs.declared.actions.Actor.{Actor}
use Rattle.dc_base.specs.declared.actions.Action.{Action}
use Rattle.dc_top.specs.Verdict.{Inputs, bounds_of, done, either_verdict, schedule_read, play_verdict}

pub writes_as : {T : Type 0} (f g : ℕ) (a b : Option (List ℕ)) (status : ℕ) (text : List ℕ) (r : Result T Failed) → Writes a b text r → OnErr r (Rose f g) → WritesAs f g a b status text (status_for r status)
writes_as f g a b status text (Ok x) w rose = whole w
writes_as f g a b status text (Err failed) w rose = part rose w

-- what was written of a verdict, or of a read fault, is the answer
module _ (IsVerdict : Verdict → Type 0) (IsFault : List ℕ → Type 0) (call : Call) where
  abbrev W : ℕ → List ℕ → ℕ → Type 0
  W = λ status text result. WritesAs call.sink_faults call.sink_faults_after call.told call.told_after status text result

  pub verdict_answers : (v : Verdict) (result : ℕ) → IsVerdict v → W v.status v.text result → Answers IsVerdict IsFault call result
  verdict_answers v result is (whole adds) = verdict v is adds
  verdict_answers v result is (part rose prefix) = write_fault v is rose prefix

  pub unread_answers : (name : List ℕ) (result : ℕ) → IsFault name → Rose call.shelf_faults call.shelf_faults_after → W 5 (ended (read_fault_line name)) result →
      Answers IsVerdict IsFault call result
  unread_answers name result fault rose (whole adds) = read_fault name fault rose adds
  unread_answers name result fault rose (part failed prefix) = both_faults name fault rose failed prefix

-- the verdict of files that are accepted is the text of the run
pub ready_verdict : (image script schedule : List ℕ) (i : Image) (s : List ScriptLine) (a : List (Actor × Action)) → IsReady image script schedule i s a → play_verdict image script schedule ≡ done (play_text i s a)
unfolding play_verdict
ready_verdict image script schedule i s a r =
    ap (λ (x : Result Inputs Verdict). either_verdict (x >>= (λ m. schedule_read (bounds_of m.image) schedule >>= (λ a. Ok (done (play_text m.image m.script a)))))) r.inputs
    ∙ ap (λ (x : Result (List (Actor × Action)) Verdict). either_verdict (x >>= (λ a. Ok (done (play_text i s a))))) r.actions

-- what was written of a play, with its status
module _ (f g : ℕ) (a b : Option (List ℕ)) (text : List ℕ) where
  pub plays_as : {T : Type 0} (r : Result T Ended) → Plays f g a b text r → PlaysAs f g a b text (status_of_play r)
  plays_as (Ok x) w = whole_text w
  plays_as (Err end.Sink) w = part_of_text w.0 w.1
  plays_as (Err end.Memory) w = no_text w

  pub written_as : {T : Type 0} (r : Result T Failed) → Writes a b text r → OnErr r (Rose f g) → PlaysAs f g a b text (status_for r 0)
  written_as (Ok x) w rose = whole_text w
  written_as (Err failed) w rose = part_of_text rose w

  pub plays_whole : (result : ℕ) → PlaysAs f g a b text result → result ≡ 0 → Adds a b text
  plays_whole result (whole_text adds) e = adds
  plays_whole result (part_of_text rose prefix) e = absurd (omega (arith, e))
  plays_whole result (no_text same) e = absurd (omega (arith, e))

  pub plays_write_fault : (result : ℕ) → PlaysAs f g a b text result → result ≡ 6 → Rose f g
  plays_write_fault result (whole_text adds) e = absurd (omega (arith, e))
  plays_write_fault result (part_of_text rose prefix) e = rose
  plays_write_fault result (no_text same) e = absurd (omega (arith, e))

  pub plays_no_memory : (result : ℕ) → PlaysAs f g a b text result → result ≡ 7 → b ≡ a
  plays_no_memory result (whole_text adds) e = absurd (omega (arith, e))
  plays_no_memory result (part_of_text rose prefix) e = absurd (omega (arith, e))
  plays_no_memory result (no_text same) e = same

  pub plays_status : (result : ℕ) → PlaysAs f g a b text result → (result ≡ 0) ⊎ ((6 ≤ result) × (result ≤ 7))
  plays_status result (whole_text adds) = inl refl
  plays_status result (part_of_text rose prefix) = inr (omega arith, omega arith)
  plays_status result (no_text same) = inr (omega arith, omega arith)

  pub plays_no_read : (result : ℕ) → PlaysAs f g a b text result → result ≡ 5 → ⊥
  plays_no_read result w e = elim (plays_status result w) [ inl is_0 ↦ omega (arith, is_0, e) | inr high ↦ omega (arith, high.0, e) ]

  pub plays_listed : (result : ℕ) → PlaysAs f g a b text result → IsPlayStatus result
  plays_listed result w = elim (plays_status result w) [ inl is_0 ↦ inl is_0 | inr high ↦ inr (omega (arith, high.0), high.1) ]

-- a file that is refused has a status from 2 to 4
pub status_of_file : (r : BadInput) → (1 < status_of r) × (status_of r ≤ 4)
status_of_file (why.Image f) = (omega arith, omega arith)
status_of_file (why.Script f) = (omega arith, omega arith)
status_of_file (why.Schedule f) = (omega arith, omega arith)

-- the status of a text, whole or not
pub whole_or_6 : (f g : ℕ) (a b : Option (List ℕ)) (status : ℕ) (text : List ℕ) (result : ℕ) → WritesAs f g a b status text result → (result ≡ status) ⊎ ((result ≡ 6) × Rose f g)
whole_or_6 f g a b status text result (whole adds) = inl refl
whole_or_6 f g a b status text result (part rose prefix) = inr (refl, rose)

-- what follows of bytes that files may hold
pub followed : (files : Files) (image script schedule : List ℕ) (P Q : Contents → Type 0) → ((bytes : Contents) → P bytes → Q bytes) → OfFiles files image script schedule P → OfFiles files image script schedule Q
followed files image script schedule P Q follows x = record {
  bytes = x.bytes;
  image_may = x.image_may;
  script_may = x.script_may;
  schedule_may = x.schedule_may;
  holds = follows x.bytes x.holds;
}

-- files may hold something
any_files : (files : Files) (image script schedule : List ℕ) → OfFiles files image script schedule (λ bytes. Unit {0})
any_files None image script schedule = record { bytes = record { image = []; script = []; schedule = [] }; image_may = cc; script_may = cc; schedule_may = cc; holds = tt }
any_files (Some f) image script schedule = record {
  bytes = record { image = f image; script = f script; schedule = f schedule };
  image_may = refl;
  script_may = refl;
  schedule_may = refl;
  holds = tt;
}

module _ (image script schedule : List ℕ) where
  -- what is answered, by the bytes
  abbrev A : Call → ℕ → Contents → Type 0
  A call result = λ bytes. PlayAnswers image script schedule bytes call result

  -- a verdict, and a read fault, by the bytes
  abbrev V : Contents → Verdict → Type 0
  V bytes = λ v. v ≡ play_verdict bytes.image bytes.script bytes.schedule

  abbrev F : Contents → List ℕ → Type 0
  F bytes = FaultOf image script schedule bytes

  ready_answers : (call : Call) (i : Image) (s : List ScriptLine) (a : List (Actor × Action)) (result : ℕ) (bytes : Contents) →
      PlaysAs call.sink_faults call.sink_faults_after call.told call.told_after (play_text i s a) result → IsReady bytes.image bytes.script bytes.schedule i s a → A call result bytes
  ready_answers call i s a result bytes (whole_text adds) ready =
      verdict_answers (V bytes) (F bytes) call (done (play_text i s a)) result (sym (ready_verdict bytes.image bytes.script bytes.schedule i s a ready)) (whole adds)
  ready_answers call i s a result bytes (part_of_text rose prefix) ready =
      verdict_answers (V bytes) (F bytes) call (done (play_text i s a)) result (sym (ready_verdict bytes.image bytes.script bytes.schedule i s a ready)) (part rose prefix)
  ready_answers call i s a result bytes (no_text same) ready = no_memory same

  pub played_answers : (files : Files) (call : Call) (i : Image) (s : List ScriptLine) (a : List (Actor × Action)) (result : ℕ) →
      OfFiles files image script schedule (λ bytes. IsReady bytes.image bytes.script bytes.schedule i s a) →
      PlaysAs call.sink_faults call.sink_faults_after call.told call.told_after (play_text i s a) result → OfFiles files image script schedule (λ bytes. PlayAnswers image script schedule bytes call result)
  played_answers files call i s a result ready w =
      followed files image script schedule (λ bytes. IsReady bytes.image bytes.script bytes.schedule i s a) (A call result) (λ bytes r. ready_answers call i s a result bytes w r) ready

  pub halt_answers : (files : Files) (call : Call) (h : Halt) (result : ℕ) → Halts files image script schedule call.shelf_faults call.shelf_faults_after h →
      HaltTold h call.sink_faults call.sink_faults_after call.told call.told_after result → OfFiles files image script schedule (λ bytes. PlayAnswers image script schedule bytes call result)
  halt_answers files call (halt.Refused r) result e w =
      followed files image script schedule (λ bytes. play_verdict bytes.image bytes.script bytes.schedule ≡ verdict_of r) (A call result)
      (λ bytes same. verdict_answers (V bytes) (F bytes) call (verdict_of r) result (sym same) w) e
  halt_answers files call (halt.Unread n) result e w =
      followed files image script schedule (λ bytes. FaultOf image script schedule bytes n.now) (A call result)
      (λ bytes fault. unread_answers (V bytes) (F bytes) call n.now result fault e.0 w) e.1
  halt_answers files call halt.Memory result e w =
      followed files image script schedule (λ bytes. Unit {0}) (A call result) (λ bytes u. subst (λ (n : ℕ). PlayAnswers image script schedule bytes call n) (sym w.0) (no_memory w.1))
      (any_files files image script schedule)

  module _ (files : Files) (before now f g : ℕ) (a b : Option (List ℕ)) where
    pub halt_read_fault : (h : Halt) (result : ℕ) → Halts files image script schedule before now h → HaltTold h f g a b result → result ≡ 5 → Rose before now
    halt_read_fault (halt.Refused r) result e w is_5 =
        let low = status_of_file r in
        elim (whole_or_6 f g a b (status_of r) (ended (line_of r)) result w) [ inl same ↦ absurd (omega (arith, same, is_5, low)) | inr other ↦ absurd (omega (arith, other.0, is_5)) ]
    halt_read_fault (halt.Unread n) result e w is_5 = e.0
    halt_read_fault halt.Memory result e w is_5 = absurd (omega (arith, w.0, is_5))

    pub halt_write_fault : (h : Halt) (result : ℕ) → HaltTold h f g a b result → result ≡ 6 → Rose f g
    halt_write_fault (halt.Refused r) result w is_6 =
        let low = status_of_file r in
        elim (whole_or_6 f g a b (status_of r) (ended (line_of r)) result w) [ inl same ↦ absurd (omega (arith, same, is_6, low)) | inr other ↦ other.1 ]
    halt_write_fault (halt.Unread n) result w is_6 =
        elim (whole_or_6 f g a b 5 (ended (read_fault_line n.now)) result w) [ inl same ↦ absurd (omega (arith, same, is_6)) | inr other ↦ other.1 ]
    halt_write_fault halt.Memory result w is_6 = absurd (omega (arith, w.0, is_6))

    pub halt_no_memory : (h : Halt) (result : ℕ) → HaltTold h f g a b result → result ≡ 7 → b ≡ a
    halt_no_memory (halt.Refused r) result w is_7 =
        let low = status_of_file r in
        elim (whole_or_6 f g a b (status_of r) (ended (line_of r)) result w) [ inl same ↦ absurd (omega (arith, same, is_7, low)) | inr other ↦ absurd (omega (arith, other.0, is_7)) ]
    halt_no_memory (halt.Unread n) result w is_7 =
        elim (whole_or_6 f g a b 5 (ended (read_fault_line n.now)) result w) [ inl same ↦ absurd (omega (arith, same, is_7)) | inr other ↦ absurd (omega (arith, other.0, is_7)) ]
    halt_no_memory halt.Memory result w is_7 = w.1

    -- a halt has a status from 2 to 7
    halt_status : (h : Halt) (result : ℕ) → HaltTold h f g a b result → (1 < result) × (result ≤ 7)
    halt_status (halt.Refused r) result w =
        let low = status_of_file r in
        elim (whole_or_6 f g a b (status_of r) (ended (line_of r)) result w) [ inl same ↦ (omega (arith, same, low), omega (arith, same, low)) | inr other ↦ (omega (arith, other.0), omega (arith, other.0)) ]
    halt_status (halt.Unread n) result w =
        elim (whole_or_6 f g a b 5 (ended (read_fault_line n.now)) result w) [ inl same ↦ (omega (arith, same), omega (arith, same)) | inr other ↦ (omega (arith, other.0), omega (arith, other.0)) ]
    halt_status halt.Memory result w = (omega (arith, w.0), omega (arith, w.0))

    pub halt_listed : (h : Halt) (result : ℕ) → HaltTold h f g a b result → IsPlayStatus result
    halt_listed h result w = inr (halt_status h result w)

    pub halt_not_done : (h : Halt) (result : ℕ) → HaltTold h f g a b result → result ≡ 0 → ⊥
    halt_not_done h result w is_0 = let low = (halt_status h result w).0 in omega (arith, low, is_0)
