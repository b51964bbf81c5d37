-- What a request is answered, once the sink has written out what it holds back.
use Rattle.std.proofs.Common.{◌≡◌, ◌⊎◌, ◌∙◌, ◌≤◌, ℕ, List, [], ◌++◌, Bool, refl, sym, ap, subst, inl, inr, Option, Some, None, append-nil, arith}
use Rattle.std.specs.Prelude.{IsTrue}
use Rattle.dc_base.specs.PlayText.{gen_text}
use Rattle.dc_base.specs.TextWords.{ended}
use Rattle.dc_io.specs.Counts.{Rose}
use Rattle.dc_io.specs.Told.{Adds, AddsPrefix, KeepsBeginning}
use Rattle.dc_io.proofs.Adding.{adds_and_none}
use Rattle.dc_play.proofs.Rises.{rose_since}
use Rattle.dc_top.specs.Contents.{Contents, Files}
use Rattle.dc_top.specs.Calls.{Answers, Call, FaultOf, PlayAnswers, TellsPlay, Wrote, verdict, read_fault, write_fault, both_faults, no_memory}
use Rattle.dc_top.specs.Finished.{WrittenOut, untouched, all_out, end_lost}
use Rattle.dc_top.specs.Requests.{Request, play, run, gen, HasStatusOf, IsAnswered, LosesItsEnd, RequestTold}
use Rattle.dc_top.specs.Written.{PlaysAs, WritesAs, whole, part, whole_text, part_of_text, no_text}
use Rattle.dc_top.specs.BadInputs.{Verdict, usage}
use Rattle.dc_top.specs.RunCalls.{InputFaultOf, RunAnswers, TellsRun}
use Rattle.dc_top.specs.Verdict.{IsRunVerdict, play_verdict}
use Rattle.dc_top.proofs.Answers.{followed}
use Rattle.dc_top.proofs.LoadingInputs.{inputs_followed}

pub usage_status : (f g : ℕ) (a b : Option (List ℕ)) (text : List ℕ) (status : ℕ) → WritesAs f g a b 1 text status → (status ≡ 1) ⊎ (status ≡ 6)
usage_status f g a b text status (whole adds) = inl refl
usage_status f g a b text status (part rose prefix) = inr refl

-- what becomes of a status
module _ (holds_back : Bool) (f g : ℕ) (a b : Option (List ℕ)) (status : ℕ) where
  pub is_untouched : status ≡ 7 → g ≡ f → b ≡ a → WrittenOut holds_back f g a b status 7
  is_untouched seven count same = untouched seven count same

  pub is_all_out : (status ≡ 7 → ⊥) → f ≤ g → Adds a b [] → WrittenOut holds_back f g a b status status
  is_all_out other grew adds = all_out other grew adds

  pub is_end_lost : IsTrue holds_back → Rose f g → KeepsBeginning a b → WrittenOut holds_back f g a b status 6
  is_end_lost holds rose begins = end_lost holds rose begins

rose_on : (f m g : ℕ) → Rose f m → m ≤ g → Rose f g
rose_on f m g rose grew = omega (arith, rose, grew)

prefix_still : {a b c : Option (List ℕ)} {xs : List ℕ} → AddsPrefix a b xs → Adds b c [] → AddsPrefix a c xs
prefix_still p still = record { part = p.part; rest = p.rest; whole = p.whole; adds = adds_and_none p.adds still }

wrote_still : (a b c : Option (List ℕ)) (P : List ℕ → Type 0) → Adds b c [] → Wrote a b P → Wrote a c P
wrote_still a b c P still wrote = λ taken e.
    let w = wrote taken e in
    (w.0, still.added (taken ++ w.0) w.1 ∙ ap Some (append-nil (taken ++ w.0)), w.2)

told_still : (files : Files) (a b c : Option (List ℕ)) (r : Option Request) → Adds b c [] → RequestTold files a b r → RequestTold files a c r
told_still files a b c None still told = told
told_still files a b c (Some (play i s t)) still told =
    followed files i s t (λ bytes. Wrote a b (TellsPlay bytes.image bytes.script bytes.schedule)) (λ bytes. Wrote a c (TellsPlay bytes.image bytes.script bytes.schedule))
    (λ bytes w. wrote_still a b c (TellsPlay bytes.image bytes.script bytes.schedule) still w) told
told_still files a b c (Some (run i s)) still told =
    inputs_followed files i s (λ x y. Wrote a b (TellsRun x y)) (λ x y. Wrote a c (TellsRun x y)) (λ x y w. wrote_still a b c (TellsRun x y) still w) told
told_still files a b c (Some (gen n)) still told = adds_and_none told still

-- a count that goes on, and bytes told that stay
module _ (f m g : ℕ) (a b c : Option (List ℕ)) (grew : m ≤ g) (still : Adds b c []) where
  writes_still : (status : ℕ) (text : List ℕ) (result : ℕ) → WritesAs f m a b status text result → WritesAs f g a c status text result
  writes_still status text result (whole adds) = whole (adds_and_none adds still)
  writes_still status text result (part rose prefix) = part (rose_on f m g rose grew) (prefix_still prefix still)

  plays_still : (text : List ℕ) (result : ℕ) → (result ≡ 7 → ⊥) → PlaysAs f m a b text result → PlaysAs f g a c text result
  plays_still text result other (whole_text adds) = whole_text (adds_and_none adds still)
  plays_still text result other (part_of_text rose prefix) = part_of_text (rose_on f m g rose grew) (prefix_still prefix still)
  plays_still text result other (no_text same) = absurd (other refl)

-- a request that is answered, with the shelf's counts
module _ (files : Files) (h k f m g : ℕ) (a b c : Option (List ℕ)) where
  abbrev Mid : Call
  Mid = record { shelf_faults = h; shelf_faults_after = k; sink_faults = f; sink_faults_after = m; told = a; told_after = b }

  abbrev Last : Call
  Last = record { shelf_faults = h; shelf_faults_after = k; sink_faults = f; sink_faults_after = g; told = a; told_after = c }

  module _ (grew : m ≤ g) (still : Adds b c []) where
    answers_still : (IsVerdict : Verdict → Type 0) (IsFault : List ℕ → Type 0) (result : ℕ) → (result ≡ 7 → ⊥) → Answers IsVerdict IsFault Mid result →
        Answers IsVerdict IsFault Last result
    answers_still IsVerdict IsFault result other (verdict v is adds) = verdict v is (adds_and_none adds still)
    answers_still IsVerdict IsFault result other (read_fault name fault rose adds) = read_fault name fault rose (adds_and_none adds still)
    answers_still IsVerdict IsFault result other (write_fault v is rose prefix) = write_fault v is (rose_on f m g rose grew) (prefix_still prefix still)
    answers_still IsVerdict IsFault result other (both_faults name fault rose failed prefix) =
        both_faults name fault rose (rose_on f m g failed grew) (prefix_still prefix still)
    answers_still IsVerdict IsFault result other (no_memory same) = absurd (other refl)

    request_still : (r : Option Request) (result : ℕ) → (result ≡ 7 → ⊥) → IsAnswered r files Mid result → IsAnswered r files Last result
    request_still None result other x = writes_still f m g a b c grew still 1 (ended usage) result x
    request_still (Some (play i s t)) result other x =
        followed files i s t (λ bytes. PlayAnswers i s t bytes Mid result) (λ bytes. PlayAnswers i s t bytes Last result)
        (λ bytes w. answers_still (λ v. v ≡ play_verdict bytes.image bytes.script bytes.schedule) (FaultOf i s t bytes) result other w) x
    request_still (Some (run i s)) result other x =
        inputs_followed files i s (λ y z. RunAnswers i s y z Mid result) (λ y z. RunAnswers i s y z Last result)
        (λ y z w. answers_still (IsRunVerdict y z) (InputFaultOf i s y) result other w) x
    request_still (Some (gen n)) result other x = plays_still f m g a b c grew still (gen_text n) result other x

  module _ (r : Option Request) (holds_back : Bool) (status : ℕ) where
    pub out_answers : (result : ℕ) → IsAnswered r files Mid status → WrittenOut holds_back m g b c status result → IsAnswered r files Last result ⊎ LosesItsEnd r files holds_back Last result
    out_answers result x (untouched seven count same) =
        let counted : IsAnswered r files (record Mid { sink_faults_after = g }) status =
        subst (λ (n : ℕ). IsAnswered r files (record Mid { sink_faults_after = n }) status) (sym count) x in
        let told : IsAnswered r files Last status = subst (λ (o : Option (List ℕ)). IsAnswered r files (record Last { told_after = o }) status) (sym same) counted in
        inl (subst (λ (n : ℕ). IsAnswered r files Last n) seven told)
    out_answers result x (all_out other grew still) = inl (request_still grew still r status other x)
    out_answers result x (end_lost holds rose begins) =
        inr (record { is_6 = refl; holds = holds; mid = b; faults = m; lost_status = status; rose = rose; answered = x; begins = begins })

    pub out_headline : (result : ℕ) → (status ≡ 0 → RequestTold files a b r) → WrittenOut holds_back m g b c status result → result ≡ 0 → RequestTold files a c r
    out_headline result told (untouched seven count same) e = absurd (omega (arith, e))
    out_headline result told (all_out other grew still) e = told_still files a b c r still (told e)
    out_headline result told (end_lost holds rose begins) e = absurd (omega (arith, e))

    pub out_read_fault : (result : ℕ) → (status ≡ 5 → Rose h k) → WrittenOut holds_back m g b c status result → result ≡ 5 → Rose h k
    out_read_fault result rises (untouched seven count same) e = absurd (omega (arith, e))
    out_read_fault result rises (all_out other grew still) e = rises e
    out_read_fault result rises (end_lost holds rose begins) e = absurd (omega (arith, e))

    pub out_write_fault : (result : ℕ) → f ≤ m → (status ≡ 6 → Rose f m) → WrittenOut holds_back m g b c status result → result ≡ 6 → Rose f g
    out_write_fault result grows rises (untouched seven count same) e = absurd (omega (arith, e))
    out_write_fault result grows rises (all_out other grew still) e = rose_on f m g (rises e) grew
    out_write_fault result grows rises (end_lost holds rose begins) e = rose_since f m g grows rose

    pub out_no_memory : (result : ℕ) → (status ≡ 7 → b ≡ a) → WrittenOut holds_back m g b c status result → result ≡ 7 → c ≡ a
    out_no_memory result nothing (untouched seven count same) e = same ∙ nothing seven
    out_no_memory result nothing (all_out other grew still) e = absurd (other e)
    out_no_memory result nothing (end_lost holds rose begins) e = absurd (omega (arith, e))

    -- 6 is a status of each request
    six_listed : (r : Option Request) → HasStatusOf r 6
    six_listed None = inr refl
    six_listed (Some (play i s t)) = inr (omega arith, omega arith)
    six_listed (Some (run i s)) = (inr (omega arith, omega arith), λ e. omega (arith, e))
    six_listed (Some (gen n)) = inr (omega arith, omega arith)

    pub out_listed : (result : ℕ) → HasStatusOf r status → WrittenOut holds_back m g b c status result → HasStatusOf r result
    out_listed result has (untouched seven count same) = subst (λ (n : ℕ). HasStatusOf r n) seven has
    out_listed result has (all_out other grew still) = has
    out_listed result has (end_lost holds rose begins) = six_listed r
