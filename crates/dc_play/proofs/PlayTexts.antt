-- The text of a run is written in parts: its journal, its report and its end.
use Rattle.std.proofs.Common.{◌≡◌, ℕ, List, ◌++◌, Option, Result, sym, ap, ◌∙◌, subst, append_assoc}
use Rattle.dc_base.specs.TextWords.{ended}
use Rattle.dc_base.specs.EntryText.{journal_text}
use Rattle.dc_base.specs.ReportText.{report_text, skipped_text, end_text}
use Rattle.dc_base.specs.Report.{report_lines}
use Rattle.dc_base.specs.PlayText.{played_text}
use Rattle.dc_base.specs.States.{State}
use Rattle.dc_base.specs.CoreRuns.{Run}
use Rattle.dc_io.specs.declared.sinks.Failed.{Failed}
use Rattle.dc_io.specs.Told.{Adds, AddsPrefix}
use Rattle.dc_play.specs.Written.{Writes}
use Rattle.dc_play.proofs.Adding.{writes_behind, prefix_first, prefix_more}

-- how many were skipped, and the end
abbrev pub end_of : ℕ → List ℕ
end_of skipped = ended (skipped_text skipped) ++ ended end_text

played_split : (r : Run) → played_text r ≡ journal_text r.journal ++ (report_text (report_lines r.state) ++ end_of r.skipped)
unfolding played_text
played_split r =
    append_assoc (journal_text r.journal ++ report_text (report_lines r.state)) (ended (skipped_text r.skipped)) (ended end_text)
    ∙ append_assoc (journal_text r.journal) (report_text (report_lines r.state)) (end_of r.skipped)

pub played_parts : (s : State) (r : Run) (skipped : ℕ) → s ≡ r.state → skipped ≡ r.skipped → played_text r ≡ journal_text r.journal ++ (report_text (report_lines s) ++ end_of skipped)
played_parts s r skipped h g =
    played_split r ∙ ap (λ (t : State). journal_text r.journal ++ (report_text (report_lines t) ++ end_of r.skipped)) (sym h)
    ∙ ap (λ (n : ℕ). journal_text r.journal ++ (report_text (report_lines s) ++ end_of n)) (sym g)

pub journal_fails : (a b : Option (List ℕ)) (r : Run) → AddsPrefix a b (journal_text r.journal) → AddsPrefix a b (played_text r)
journal_fails a b r h = subst (λ (t : List ℕ). AddsPrefix a b t) (sym (played_split r)) (prefix_first a b (journal_text r.journal) (report_text (report_lines r.state) ++ end_of r.skipped) h)

module _ (s : State) (r : Run) (skipped : ℕ) (same_state : s ≡ r.state) (same_skipped : skipped ≡ r.skipped) (a b c : Option (List ℕ)) (journal : Adds a b (journal_text r.journal)) where
  pub report_fails : AddsPrefix b c (report_text (report_lines s)) → AddsPrefix a c (played_text r)
  report_fails h =
      subst (λ (t : List ℕ). AddsPrefix a c t) (sym (played_parts s r skipped same_state same_skipped))
      (prefix_more a b c (journal_text r.journal) (report_text (report_lines s)) (end_of skipped) journal h)

  pub end_written : (d : Option (List ℕ)) (result : Result (Unit {0}) Failed) → Adds b c (report_text (report_lines s)) → Writes c d (end_of skipped) result → Writes a d (played_text r) result
  end_written d result h g =
      subst (λ (t : List ℕ). Writes a d t result) (sym (played_parts s r skipped same_state same_skipped))
      (writes_behind a b d (journal_text r.journal) (report_text (report_lines s) ++ end_of skipped) result journal
      (writes_behind b c d (report_text (report_lines s)) (end_of skipped) result h g))
