-- What was written of a run, with its status, is what the call answers.
use Rattle.std.proofs.Common.{◌≡◌, ◌⊎◌, ◌<◌, ◌≤◌, ℕ, List, refl, sym, ap, ◌∙◌, subst, arith, inl, inr, Option, Result, Ok, Err}
use Rattle.dc_base.specs.declared.commands.ScriptLine.{ScriptLine}
use Rattle.dc_base.specs.declared.entries.Entry.{Entry}
use Rattle.dc_base.specs.declared.images.Image.{Image}
use Rattle.dc_base.specs.declared.commands.Bounds.{Bounds}
use Rattle.dc_base.specs.FaultText.{read_fault_line}
use Rattle.dc_base.specs.Results.{◌>>=◌, fault_as}
use Rattle.dc_base.specs.PlayText.{IsRunJournal, IsRunText}
use Rattle.dc_base.specs.ScriptText.{script_of}
use Rattle.dc_base.specs.TextWords.{ended}
use Rattle.dc_image.specs.ImageOf.{image_of}
use Rattle.dc_io.specs.declared.sinks.Ended.{Ended}
use Rattle.dc_io.specs.declared.sinks.Ended.TheVariants as end
use Rattle.dc_io.specs.Counts.{Rose}
use Rattle.dc_io.specs.Told.{Adds}
use Rattle.dc_run.specs.Texts.{IsShort, Runs, run_text}
use Rattle.dc_top.specs.declared.halts.Halt.{Halt}
use Rattle.dc_top.specs.declared.halts.Halt.TheVariants as halt
use Rattle.dc_top.specs.BadInputs.{Verdict, line_of, status_of}
use Rattle.dc_top.specs.Calls.{Call, IsPlayStatus, no_memory}
use Rattle.dc_top.specs.Contents.{Files, OfInputs}
use Rattle.dc_top.specs.Halts.{AreInputs, HaltTold, InputHalts, verdict_of}
use Rattle.dc_top.specs.RunCalls.{InputFaultOf, IsRunStatus, RunAnswers}
use Rattle.dc_top.specs.Verdict.{Inputs, IsRunVerdict, bounds_of, done, image_read, image_refused, inputs_read, refused, runs, script_read, script_refused}
use Rattle.dc_top.specs.Written.{RunsAs, part, part_of_run, no_run, status_of_play, whole, whole_run}
use Rattle.dc_top.proofs.Answers.{halt_listed, halt_no_memory, status_of_file, unread_answers, verdict_answers, whole_or_6}
use Rattle.dc_top.proofs.LoadingInputs.{any_inputs, inputs_followed}

-- what was written of a run, with its status
module _ (image : Image) (lines : List ScriptLine) (f g : ℕ) (a b : Option (List ℕ)) where
  pub runs_as : {T : Type 0} (r : Result T Ended) → Runs image lines f g a b r → RunsAs image lines f g a b (status_of_play r)
  runs_as (Ok x) w = whole_run w.0 w.1 w.2 w.3
  runs_as (Err end.Sink) w = part_of_run w.1.0 w.1.1 w.0 w.1.2
  runs_as (Err end.Memory) w = no_run w

  pub runs_write_fault : (result : ℕ) → RunsAs image lines f g a b result → result ≡ 6 → Rose f g
  runs_write_fault result (whole_run journal is short adds) e = absurd (omega (arith, e))
  runs_write_fault result (part_of_run text is rose prefix) e = rose
  runs_write_fault result (no_run same) e = absurd (omega (arith, e))

  pub runs_no_memory : (result : ℕ) → RunsAs image lines f g a b result → result ≡ 7 → b ≡ a
  runs_no_memory result (whole_run journal is short adds) e = absurd (omega (arith, e))
  runs_no_memory result (part_of_run text is rose prefix) e = absurd (omega (arith, e))
  runs_no_memory result (no_run same) e = same

  runs_status : (result : ℕ) → RunsAs image lines f g a b result → (result ≡ 0) ⊎ ((6 ≤ result) × (result ≤ 7))
  runs_status result (whole_run journal is short adds) = inl refl
  runs_status result (part_of_run text is rose prefix) = inr (omega arith, omega arith)
  runs_status result (no_run same) = inr (omega arith, omega arith)

  pub runs_no_read : (result : ℕ) → RunsAs image lines f g a b result → result ≡ 5 → ⊥
  runs_no_read result w e = elim (runs_status result w) [ inl is_0 ↦ omega (arith, is_0, e) | inr high ↦ omega (arith, high.0, e) ]

  pub runs_listed : (result : ℕ) → RunsAs image lines f g a b result → IsRunStatus result
  runs_listed result w = elim (runs_status result w) [
    | inl is_0 ↦ (inl is_0, λ e. omega (arith, is_0, e))
    | inr high ↦ (inr (omega (arith, high.0), high.1), λ e. omega (arith, high.0, e))
  ]

done_verdict : (image script : List ℕ) (i : Image) (s : List ScriptLine) (text : List ℕ) → AreInputs image script i s → IsRunText i s text → IsRunVerdict image script (done text)
done_verdict image script i s text inputs is = runs (record { image = i; script = s }) inputs refl is

-- neither an image nor a script is refused as a schedule is
fault_status : {A F : Type 0} (g : F → Verdict) (n : ℕ) → ((x : F) → (g x).status ≡ n) → (r : Result A F) (v : Verdict) → fault_as g r ≡ Err v → v.status ≡ n
fault_status g n is (Ok x) v e = absurd (cc e)
fault_status g n is (Err f) v e = let same : g f ≡ v = cc e in ap (λ (w : Verdict). w.status) (sym same) ∙ is f

image_status : (image : List ℕ) (v : Verdict) → image_read image ≡ Err v → v.status ≡ 2
unfolding image_read
image_status image v e = fault_status image_refused 2 (λ f. refl) (image_of image) v e

script_status : (bounds : Bounds) (script : List ℕ) (v : Verdict) → script_read bounds script ≡ Err v → v.status ≡ 3
unfolding script_read
script_status bounds script v e = fault_status script_refused 3 (λ f. refl) (script_of bounds script) v e

of_two : {A B : Type 0} (r : Result A Verdict) (k : A → Result B Verdict) (v : Verdict) → r >>= k ≡ Err v → (r ≡ Err v) ⊎ ((x : A) × (k x ≡ Err v))
of_two (Ok x) k v e = inr (x, e)
of_two (Err w) k v e = let same : w ≡ v = cc e in inl (ap (λ (x : Verdict). Err x) same)

inputs_status : (image script : List ℕ) (v : Verdict) → inputs_read image script ≡ Err v → v.status ≡ 4 → ⊥
unfolding inputs_read
inputs_status image script v e four =
    elim (of_two (image_read image) (λ i. script_read (bounds_of i) script >>= (λ s. Ok (record { image = i; script = s }))) v e) [
      | inl p ↦ (let two = image_status image v p in omega (arith, two, four))
      | inr q ↦ elim (of_two (script_read (bounds_of q.0) script) (λ s. Ok (record { image = q.0; script = s })) v q.1) [
        | inl p ↦ (let three = script_status (bounds_of q.0) script v p in omega (arith, three, four))
        | inr z ↦ absurd (no_fault (record { image = q.0; script = z.0 }) v z.1)
      ]
    ]
  where
    no_fault : (m : Inputs) (w : Verdict) → Ok m ≡ Err w → ⊥
    no_fault m w same = cc same

module _ (image script : List ℕ) where
  abbrev A : Call → ℕ → List ℕ → List ℕ → Type 0
  A call result = λ i s. RunAnswers image script i s call result

  ready_answers : (call : Call) (i : Image) (s : List ScriptLine) (result : ℕ) (x y : List ℕ) →
      RunsAs i s call.sink_faults call.sink_faults_after call.told call.told_after result → AreInputs x y i s → A call result x y
  ready_answers call i s result x y (whole_run journal is short adds) ready =
      verdict_answers (IsRunVerdict x y) (InputFaultOf image script x) call (done (run_text i s journal)) result
      (done_verdict x y i s (run_text i s journal) ready (journal, is, refl)) (whole adds)
  ready_answers call i s result x y (part_of_run text is rose prefix) ready =
      verdict_answers (IsRunVerdict x y) (InputFaultOf image script x) call (done text) result (done_verdict x y i s text ready is) (part rose prefix)
  ready_answers call i s result x y (no_run same) ready = no_memory same

  pub ran_answers : (files : Files) (call : Call) (i : Image) (s : List ScriptLine) (result : ℕ) → OfInputs files image script (λ x y. AreInputs x y i s) →
      RunsAs i s call.sink_faults call.sink_faults_after call.told call.told_after result → OfInputs files image script (λ x y. RunAnswers image script x y call result)
  ran_answers files call i s result ready w =
      inputs_followed files image script (λ x y. AreInputs x y i s) (A call result) (λ x y r. ready_answers call i s result x y w r) ready

  pub stop_answers : (files : Files) (call : Call) (h : Halt) (result : ℕ) → InputHalts files image script call.shelf_faults call.shelf_faults_after h →
      HaltTold h call.sink_faults call.sink_faults_after call.told call.told_after result → OfInputs files image script (λ x y. RunAnswers image script x y call result)
  stop_answers files call (halt.Refused r) result e w =
      inputs_followed files image script (λ x y. inputs_read x y ≡ Err (verdict_of r)) (A call result)
      (λ x y same. verdict_answers (IsRunVerdict x y) (InputFaultOf image script x) call (verdict_of r) result (refused same) w) e
  stop_answers files call (halt.Unread n) result e w =
      inputs_followed files image script (λ x y. InputFaultOf image script x n.now) (A call result)
      (λ x y fault. unread_answers (IsRunVerdict x y) (InputFaultOf image script x) call n.now result fault e.0 w) e.1
  stop_answers files call halt.Memory result e w =
      inputs_followed files image script (λ x y. Unit {0}) (A call result) (λ x y u. subst (λ (n : ℕ). RunAnswers image script x y call n) (sym w.0) (no_memory w.1))
      (any_inputs files image script)

  module _ (files : Files) (before now f g : ℕ) (a b : Option (List ℕ)) where
    pub stop_read_fault : (h : Halt) (result : ℕ) → InputHalts files image script before now h → HaltTold h f g a b result → result ≡ 5 → Rose before now
    stop_read_fault (halt.Refused r) result e w is_5 =
        let low = status_of_file r in
        elim (whole_or_6 f g a b (status_of r) (ended (line_of r)) result w) [ inl same ↦ absurd (omega (arith, same, is_5, low)) | inr other ↦ absurd (omega (arith, other.0, is_5)) ]
    stop_read_fault (halt.Unread n) result e w is_5 = e.0
    stop_read_fault halt.Memory result e w is_5 = absurd (omega (arith, w.0, is_5))

    not_4 : (h : Halt) (result : ℕ) → InputHalts files image script before now h → HaltTold h f g a b result → result ≡ 4 → ⊥
    not_4 (halt.Refused r) result e w four =
        elim (whole_or_6 f g a b (status_of r) (ended (line_of r)) result w) [
          | inl same ↦ inputs_status e.bytes e.holds.bytes (verdict_of r) e.holds.holds (sym same ∙ four)
          | inr other ↦ (let six = other.0 in omega (arith, six, four))
        ]
    not_4 (halt.Unread n) result e w four =
        elim (whole_or_6 f g a b 5 (ended (read_fault_line n.now)) result w) [ inl same ↦ omega (arith, same, four) | inr other ↦ (let six = other.0 in omega (arith, six, four)) ]
    not_4 halt.Memory result e w four = let seven = w.0 in omega (arith, seven, four)

    pub stop_listed : (h : Halt) (result : ℕ) → InputHalts files image script before now h → HaltTold h f g a b result → IsRunStatus result
    stop_listed h result e w = (halt_listed image script script files before now f g a b h result w, not_4 h result e w)
