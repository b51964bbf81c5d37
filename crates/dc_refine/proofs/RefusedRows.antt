-- A refused entry of a run shows the first row of the table that applies.
use Rattle.std.proofs.Common.{◌≡◌, ℕ, List, ◌∷◌, ◌++◌, Bool, true, false, Option, Some, None, refl, sym, ap, ◌∙◌, subst}
use Rattle.std.specs.Prelude.{slice_get, if◌then◌else◌}
use Rattle.dc_base.specs.declared.actions.Actor.{Actor}
use Rattle.dc_base.specs.declared.actions.Actor.TheVariants as actor
use Rattle.dc_base.specs.declared.commands.Refusal.{Refusal}
use Rattle.dc_base.specs.declared.commands.ScriptLine.{ScriptLine}
use Rattle.dc_base.specs.declared.commands.ScriptLine.TheVariants as line
use Rattle.dc_base.specs.declared.entries.Entry.{Entry}
use Rattle.dc_base.specs.declared.entries.What.TheVariants as what
use Rattle.dc_base.specs.Words.{bind}
use Rattle.dc_base.specs.Boot.{Registry, refusal}
use Rattle.dc_base.specs.Answers.{Answered, only_if, is_this_refusal, may_begin, refused_answer, script_answer, core_answer, answered_by, answered_after, finished}
use Rattle.dc_base.specs.StrikeOut.{clock_told}
use Rattle.dc_base.specs.Runs.{Terms, Seen, run_step, run_from}
use Rattle.dc_base.specs.Headline.{IsRefused}
use Rattle.dc_base.proofs.RunLaws.{run_from-append, run_step-comes}
use Rattle.dc_base.proofs.SameLaws.{is_same_refusal-equal}

shown : (r : Refusal) (o : Option Refusal) → is_this_refusal r o ≡ true → o ≡ Some r
shown r None h = absurd cc
shown r (Some q) h = ap Some (is_same_refusal-equal q r h)

module _ (lines : List ScriptLine) (boot : Registry) (a n : Answered) (q : ℕ) (r : Refusal) where
  tested : (o : Option Refusal) (t : Bool) → is_this_refusal r o ≡ t → only_if t (finished lines a) ≡ Some n → o ≡ Some r
  tested o true e h = shown r o e
  tested o false e h = absurd cc

  by_line : (l : Option ScriptLine) → slice_get lines q ≡ l → refused_answer lines boot a r l ≡ Some n → IsRefused lines q r boot
  by_line None e h = absurd cc
  by_line (Some (line.Boot command)) e h = record { command = command; in_script = e; first_row = tested (refusal boot command) (is_this_refusal r (refusal boot command)) refl h }
  by_line (Some (line.Raise l)) e h = absurd cc
  by_line (Some (line.Route l c)) e h = absurd cc
  by_line (Some (line.Await b words limit)) e h = absurd cc

  by_begin : (t : Bool) → (if t then refused_answer lines boot a r (slice_get lines q) else None) ≡ Some n → IsRefused lines q r boot
  by_begin true h = by_line (slice_get lines q) refl h
  by_begin false h = absurd cc

  by_actor : (who : Actor) (clock : ℕ → ℕ) → answered_by lines boot clock a who (what.Refused q r) ≡ Some n → IsRefused lines q r boot
  unfolding core_answer script_answer
  by_actor (actor.Core c) clock h = absurd cc
  by_actor actor.Script clock h = by_begin (may_begin lines a q) h

-- a step of a run that shows a refusal
refused_step : (terms : Terms) (lines : List ScriptLine) (s n : Seen) (e : Entry) (q : ℕ) (r : Refusal) → run_step terms lines s e ≡ Some n → e.what ≡ what.Refused q r → IsRefused lines q r s.boot
unfolding answered_after
refused_step terms lines s n e q r h is =
    by_actor lines s.boot s.answered n.answered q r e.actor (clock_told s.told)
    (ap (answered_by lines s.boot (clock_told s.told) s.answered e.actor) (sym is) ∙ (run_step-comes terms lines s e n h).answered)

-- the step of an entry among others
pub record IsStepOf (terms : Terms) (lines : List ScriptLine) (start : Seen) (before : List Entry) (e : Entry) : Type 0 where
  pub seen : Seen
  pub next : Seen
  pub run : run_from terms lines start before ≡ Some seen
  pub step : run_step terms lines seen e ≡ Some next

module _ (terms : Terms) (lines : List ScriptLine) (start : Seen) (before after : List Entry) (e : Entry) (t : Seen) where
  step_after : (m : Seen) → run_from terms lines start before ≡ Some m → (o : Option Seen) → run_step terms lines m e ≡ o → bind o (λ n. run_from terms lines n after) ≡ Some t → IsStepOf terms lines start before e
  step_after m r None s h = absurd cc
  step_after m r (Some n) s h = record { seen = m; next = n; run = r; step = s }

  step_among : (o : Option Seen) → run_from terms lines start before ≡ o → bind o (λ m. run_from terms lines m (e ∷ after)) ≡ Some t → IsStepOf terms lines start before e
  step_among None r h = absurd cc
  step_among (Some m) r h = step_after m r (run_step terms lines m e) refl h

  pub step_of_run : run_from terms lines start (before ++ e ∷ after) ≡ Some t → IsStepOf terms lines start before e
  step_of_run h = step_among (run_from terms lines start before) refl (sym (run_from-append terms lines start before (e ∷ after)) ∙ h)

-- a refused entry of a run, by what was told before it
pub refused_in : (terms : Terms) (lines : List ScriptLine) (start : Seen) (before after : List Entry) (e : Entry) (q : ℕ) (r : Refusal) (t : Seen) → run_from terms lines start (before ++ e ∷ after) ≡ Some t → e.what ≡ what.Refused q r →
    ((m : Seen) → run_from terms lines start before ≡ Some m → (boot : Registry) → m.boot ≡ boot → IsRefused lines q r boot)
refused_in terms lines start before after e q r t h is m g boot same =
    let s = step_of_run terms lines start before after e t h in
    let met : s.seen ≡ m = (let both : Some s.seen ≡ Some m = sym s.run ∙ g in cc) in
    subst (IsRefused lines q r) (ap (λ (m : Seen). m.boot) met ∙ same) (refused_step terms lines s.seen s.next e q r s.step is)
