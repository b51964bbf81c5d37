-- The logs of all passes of a stage.
use Rattle.std.specs.Prelude.{◌≡◌, ℕ, false, List, [], ◌∷◌}
use Rattle.std.specs.Global.{Vec}
use Rattle.dc_base.specs.declared.entries.Entry.{Entry}
use Rattle.dc_stage.specs.Numbers.{has, IsApart}
use Rattle.dc_stage.specs.History.{Log, own}
use Rattle.dc_stage.specs.Pasts.{actors_of}
use Rattle.dc_stage.specs.declared.view.Past.{Past}
use Rattle.dc_journal.specs.declared.merging.Logged.{Logged}
use Rattle.dc_logs.specs.Marks.{IsLogOf}

-- each pass has its log, in the same order
abbrev pub EachLog : Log Entry → List (Past Entry) → List (Vec Logged) → Type 0
EachLog history [] [] = Unit {0}
EachLog history [] (log ∷ logs) = ⊥
EachLog history (x ∷ xs) [] = ⊥
EachLog history (x ∷ xs) (log ∷ logs) = IsLogOf x.actor history log.items × EachLog history xs logs

-- Each pass has its log. Only these passes made entries, and no two of them are of one actor.
pub record AreLogs (history : Log Entry) (passes : List (Past Entry)) (logs : List (Vec Logged)) : Type 0 where
  pub each : EachLog history passes logs
  pub others : (a : ℕ) → has a (actors_of passes) ≡ false → own a history ≡ []
  pub apart : IsApart (actors_of passes)
