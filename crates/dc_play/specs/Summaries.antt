-- What a summary says of a run.
use Rattle.std.specs.Prelude.{◌≡◌, ◌%◌, ◌^◌, length, sum}
use Rattle.dc_base.specs.CoreRuns.{Run}
use Rattle.dc_base.specs.PlayText.{words_put_out}
use Rattle.dc_play.specs.declared.summaries.Summary.{Summary}

-- the entries of the journal, the actions that made none, and the words that were put out, with their sum
pub record IsSummaryOf (r : Run) (s : Summary) : Type 0 where
  pub entries : s.entries ≡ length r.journal
  pub skipped : s.skipped ≡ r.skipped
  pub outputs : s.outputs ≡ length (words_put_out r.state)
  pub total : s.sum ≡ sum (words_put_out r.state) % 2 ^ 32
