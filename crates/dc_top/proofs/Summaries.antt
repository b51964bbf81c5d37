-- The text of a summary, line by line, is that of the run.
use Rattle.std.proofs.Common.{◌≡◌, ◌∙◌, ℕ, List, ◌++◌, length, ap, Option, Result}
use Rattle.dc_base.specs.CoreRuns.{Run, core_run}
use Rattle.dc_base.specs.Generated.{generated_image, generated_script, generated_schedule, summary_text}
use Rattle.dc_base.specs.PlayText.{gen_text, summary_of, words_put_out}
use Rattle.dc_io.specs.declared.sinks.Failed.{Failed}
use Rattle.dc_io.specs.Told.{Adds, AddsPrefix}
use Rattle.dc_play.specs.declared.summaries.Summary.{Summary}
use Rattle.dc_play.specs.Summaries.{IsSummaryOf}
use Rattle.dc_play.specs.Written.{Writes}
use Rattle.dc_play.proofs.Adding.{adds_more, prefix_first, prefix_behind, writes_behind}

sums_up : (r : Run) (s : Summary) → IsSummaryOf r s → summary_text s.entries s.skipped s.outputs s.sum ≡ summary_of r
unfolding summary_of
sums_up r s is =
    ap (λ (n : ℕ). summary_text n s.skipped s.outputs s.sum) is.entries ∙ ap (λ (n : ℕ). summary_text (length r.journal) n s.outputs s.sum) is.skipped
    ∙ ap (λ (n : ℕ). summary_text (length r.journal) r.skipped n s.sum) is.outputs ∙ ap (λ (n : ℕ). summary_text (length r.journal) r.skipped (length (words_put_out r.state)) n) is.total

pub gen_summed : (n : ℕ) (s : Summary) → IsSummaryOf (core_run generated_image generated_script (generated_schedule n)) s → summary_text s.entries s.skipped s.outputs s.sum ≡ gen_text n
unfolding gen_text
gen_summed n s is = sums_up (core_run generated_image generated_script (generated_schedule n)) s is

-- four lines, written one behind the other
module _ (t0 t1 : Option (List ℕ)) (one two three four : List ℕ) where
  pub first_fails : AddsPrefix t0 t1 one → AddsPrefix t0 t1 (one ++ two ++ three ++ four)
  first_fails h = prefix_first t0 t1 (one ++ two ++ three) four (prefix_first t0 t1 (one ++ two) three (prefix_first t0 t1 one two h))

  module _ (t2 : Option (List ℕ)) (first : Adds t0 t1 one) where
    pub second_fails : AddsPrefix t1 t2 two → AddsPrefix t0 t2 (one ++ two ++ three ++ four)
    second_fails h = prefix_first t0 t2 (one ++ two ++ three) four (prefix_first t0 t2 (one ++ two) three (prefix_behind t0 t1 t2 one two first h))

    module _ (t3 : Option (List ℕ)) (second : Adds t1 t2 two) where
      pub third_fails : AddsPrefix t2 t3 three → AddsPrefix t0 t3 (one ++ two ++ three ++ four)
      third_fails h = prefix_first t0 t3 (one ++ two ++ three) four (prefix_behind t0 t2 t3 (one ++ two) three (adds_more t0 t1 t2 one two first second) h)

      pub all_put : {T : Type 0} (t4 : Option (List ℕ)) (r : Result T Failed) → Adds t2 t3 three → Writes t3 t4 four r → Writes t0 t4 (one ++ two ++ three ++ four) r
      all_put t4 r third w =
          writes_behind t0 t3 t4 (one ++ two ++ three) four r (adds_more t0 t2 t3 (one ++ two) three (adds_more t0 t1 t2 one two first second) third) w
