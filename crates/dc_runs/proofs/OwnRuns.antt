-- The run of the schedule that a lawful history shows.
use Rattle.std.proofs.Common.{◌≡◌, ℕ, List, ◌∷◌, ◌++◌, refl, sym, ap, subst}
use Rattle.dc_base.specs.declared.actions.Actor.TheVariants as actor
use Rattle.dc_base.specs.declared.commands.ScriptLine.{ScriptLine}
use Rattle.dc_base.specs.declared.entries.Entry.{Entry}
use Rattle.dc_base.specs.declared.entries.What.TheVariants as what
use Rattle.dc_base.specs.declared.images.Image.{Image}
use Rattle.dc_base.specs.declared.numbers.BlockNo.{BlockNo}
use Rattle.dc_base.specs.States.{State, core_start, settings_of}
use Rattle.dc_base.specs.CoreRuns.{Run, core_run_from, core_run, own_schedule}
use Rattle.dc_base.specs.Histories.{IsLawfulHistory, after, entries_in}
use Rattle.dc_base.specs.PlayText.{AreCoresAtRest, IsAnswered, IsRunJournal}
use Rattle.dc_runs.specs.Awaits.{AreGivenUpAtRest}
use Rattle.dc_runs.proofs.Beginnings.{first_lawful, parted}

-- the journal of this run is the history's, and it leads where the history does
pub record IsOwnRun (start : State) (history : List (ℕ × Entry)) (r : Run) : Type 0 where
  pub journal : r.journal ≡ entries_in history
  pub state : r.state ≡ after start history

module _ (image : Image) (script : List ScriptLine) where
  lines_are : (core_start image script).script.lines ≡ script
  unfolding core_start
  lines_are = refl

  -- a run from the image is one from its start
  run_is : (es : List Entry) →
      core_run_from (core_start image script) (own_schedule (core_start image script).script.lines es) ≡ core_run image script (own_schedule script es)
  unfolding core_run
  run_is es = ap (λ ls. core_run_from (core_start image script) (own_schedule ls es)) lines_are

  -- each lawful history from the start is the run of its own schedule
  abbrev pub AreOwnRuns : Type 0
  AreOwnRuns = (history : List (ℕ × Entry)) → IsLawfulHistory (settings_of image) (core_start image script) history →
      IsOwnRun (core_start image script) history
      (core_run_from (core_start image script) (own_schedule (core_start image script).script.lines (entries_in history)))

  module _ (own_runs : AreOwnRuns) (history : List (ℕ × Entry)) (lawful : IsLawfulHistory (settings_of image) (core_start image script) history) where
    own_run : IsOwnRun (core_start image script) history (core_run image script (own_schedule script (entries_in history)))
    own_run = subst (IsOwnRun (core_start image script) history) (run_is (entries_in history)) (own_runs history lawful)

    pub run_leads : (core_run image script (own_schedule script (entries_in history))).state ≡ after (core_start image script) history
    run_leads = own_run.state

    -- an await was given up in the run where it was in the history
    given_up : AreGivenUpAtRest (core_start image script) history → (before more : List Entry) (q : ℕ) (b : BlockNo) (seen : ℕ) →
        entries_in history ≡ before ++ record { actor = actor.Script; what = what.Unmet q b seen } ∷ more →
        AreCoresAtRest (core_run image script (own_schedule script before)).state
    given_up rests before more q b seen h =
        let e : Entry = record { actor = actor.Script; what = what.Unmet q b seen } in
        let p = parted history before more e h in
        let first = first_lawful (settings_of image) (core_start image script) p.first ((p.who, e) ∷ p.rest)
        (subst (IsLawfulHistory (settings_of image) (core_start image script)) p.whole lawful) in
        let own : IsOwnRun (core_start image script) p.first (core_run image script (own_schedule script (entries_in p.first))) =
        subst (IsOwnRun (core_start image script) p.first) (run_is (entries_in p.first)) (own_runs p.first first) in
        subst (λ es. AreCoresAtRest (core_run image script (own_schedule script es)).state) p.begins
        (subst AreCoresAtRest (sym own.state) (rests p.first p.rest p.who q b seen p.whole))

    -- the journal is one of a run with threads
    pub run_journal : IsAnswered (after (core_start image script) history) → AreCoresAtRest (after (core_start image script) history) →
        AreGivenUpAtRest (core_start image script) history → IsRunJournal image script (entries_in history)
    run_journal answered at_rest rests = record {
      own = own_run.journal;
      answered = subst IsAnswered (sym own_run.state) answered;
      at_rest = subst AreCoresAtRest (sym own_run.state) at_rest;
      unmet = given_up rests;
    }
