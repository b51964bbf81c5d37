-- What a run writes whole tells that run.
use Rattle.std.proofs.Common.{◌≡◌, ◌∙◌, ℕ, List, ◌++◌, Bool, length, map, take, refl, ap, inr, subst, Option, append_assoc}
use Rattle.std.specs.Prelude.{IsTrue}
use Rattle.std.specs.List.{list_all}
use Rattle.dc_base.specs.declared.commands.ScriptLine.{ScriptLine}
use Rattle.dc_base.specs.declared.entries.Entry.{Entry}
use Rattle.dc_base.specs.declared.images.Image.{Image}
use Rattle.dc_base.specs.CoreRuns.{Run, core_run, own_schedule}
use Rattle.dc_base.specs.EntryRanges.{has_line, is_in_range}
use Rattle.dc_base.specs.EntryText.{journal_text}
use Rattle.dc_base.specs.Headline.{IsReportedRun}
use Rattle.dc_base.specs.JournalText.{SpelledReads, journal_of, ticket_of}
use Rattle.dc_base.specs.Journals.{EndsJournal}
use Rattle.dc_base.specs.PlayText.{IsRunJournal}
use Rattle.dc_base.specs.Report.{report_lines}
use Rattle.dc_base.specs.ReportText.{report_text, end_text}
use Rattle.dc_base.specs.States.{State, settings_of}
use Rattle.dc_base.specs.TextWords.{ended, lines_of}
use Rattle.dc_base.specs.Valid.{IsValid, IsValidScript}
use Rattle.dc_run.specs.Texts.{IsShort, run_text}
use Rattle.dc_top.specs.Calls.{Wrote}
use Rattle.dc_top.specs.Contents.{Files, OfInputs}
use Rattle.dc_top.specs.Halts.{AreInputs}
use Rattle.dc_top.specs.RunCalls.{TellsRun, TellsRunOf}
use Rattle.dc_top.specs.Written.{RunsAs, no_run, part_of_run, whole_run}
use Rattle.dc_top.proofs.Headlines.{EachEntry, InOrder, Reported}
use Rattle.dc_top.proofs.LoadingInputs.{inputs_followed}
use Rattle.std.proofs.Common.{arith}

report_ends : (s : State) → EndsJournal (report_text (report_lines s) ++ ended end_text)
unfolding report_text
report_ends s = inr (_, refl)

module _ (reported : Reported) (lines : EachEntry has_line) (ranges : EachEntry is_in_range) (reads : SpelledReads) (in_order : InOrder) where
  module _ (i : Image) (s : List ScriptLine) (journal : List Entry) (valid : IsValid i) (suits : IsValidScript (settings_of i) s) (is : IsRunJournal i s journal) where
    abbrev R : Run
    R = core_run i s (own_schedule s journal)

    -- so is each entry of the journal
    each_entry : (p : Entry → Bool) → EachEntry p → IsTrue (list_all p journal)
    each_entry p each = subst (λ es. IsTrue (list_all p es)) is.own (each i s (own_schedule s journal) valid suits)

    behind_journal : run_text i s journal ≡ journal_text journal ++ (report_text (report_lines R.state) ++ ended end_text)
    behind_journal = append_assoc (journal_text journal) (report_text (report_lines R.state)) (ended end_text)

    run_told : IsShort journal → TellsRunOf i s (run_text i s journal)
    run_told short = record {
      run = (journal, is, refl);
      told = record {
        journal = journal;
        report = report_lines R.state;
        spelled = refl;
        read = ap journal_of behind_journal
            ∙ reads journal (report_text (report_lines R.state) ++ ended end_text) (each_entry has_line lines) (each_entry is_in_range ranges) (report_ends R.state);
        tickets = ap (λ (text : List ℕ). map ticket_of (take (length journal) (lines_of text))) behind_journal
            ∙ in_order journal (report_text (report_lines R.state) ++ ended end_text) short;
        reported = subst (λ es. IsReportedRun i s es (report_lines R.state)) is.own (reported i s (own_schedule s journal) valid suits);
      };
    }

  module _ (image script : List ℕ) (files : Files) (before after : Option (List ℕ)) (f g : ℕ) (i : Image) (s : List ScriptLine) where
    ready_tells : (result : ℕ) → IsValid i → IsValidScript (settings_of i) s → RunsAs i s f g before after result → result ≡ 0 → (x y : List ℕ) → AreInputs x y i s →
        Wrote before after (TellsRun x y)
    ready_tells result valid suits (whole_run journal is short adds) is_0 x y ready = λ taken held. (
      run_text i s journal,
      adds.added taken held,
      record { machine = record { image = i; script = s }; described = ready; told = run_told i s journal valid suits is short },
    )
    ready_tells result valid suits (part_of_run text is rose prefix) is_0 x y ready = absurd (omega (arith, is_0))
    ready_tells result valid suits (no_run same) is_0 x y ready = absurd (omega (arith, is_0))

    pub ran_tells : (result : ℕ) → OfInputs files image script (λ x y. AreInputs x y i s) → IsValid i → IsValidScript (settings_of i) s →
        RunsAs i s f g before after result → result ≡ 0 → OfInputs files image script (λ x y. Wrote before after (TellsRun x y))
    ran_tells result ready valid suits w is_0 =
        inputs_followed files image script (λ x y. AreInputs x y i s) (λ x y. Wrote before after (TellsRun x y)) (ready_tells result valid suits w is_0) ready
