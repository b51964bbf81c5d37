-- What a play writes whole tells a run.
use Rattle.std.proofs.Common.{◌≡◌, ◌∙◌, ◌≤◌, ◌+◌, ◌^◌, ℕ, List, [], ◌∷◌, ◌++◌, length, map, take, Bool, refl, ap, inr, Option, Some, append_assoc, arith}
use Rattle.std.specs.Prelude.{IsTrue}
use Rattle.std.specs.List.{list_all, range_with_len}
use Rattle.std.proofs.lemmas.List.{length-append}
use Rattle.dc_base.specs.declared.images.Image.{Image}
use Rattle.dc_base.specs.declared.actions.Actor.{Actor}
use Rattle.dc_base.specs.declared.actions.Action.{Action}
use Rattle.dc_base.specs.declared.commands.ScriptLine.{ScriptLine}
use Rattle.dc_base.specs.declared.entries.Entry.{Entry}
use Rattle.dc_base.specs.Limits.{longest_schedule}
use Rattle.dc_base.specs.States.{settings_of, core_start}
use Rattle.dc_base.specs.TextWords.{lines_of, ended}
use Rattle.dc_base.specs.EntryText.{journal_text}
use Rattle.dc_base.specs.EntryRanges.{has_line, is_in_range}
use Rattle.dc_base.specs.Journals.{EndsJournal}
use Rattle.dc_base.specs.JournalText.{SpelledReads, journal_of, ticket_of}
use Rattle.dc_base.specs.Report.{report_lines}
use Rattle.dc_base.specs.ReportText.{report_text, skipped_text, end_text}
use Rattle.dc_base.specs.PlayText.{played_text, play_text}
use Rattle.dc_base.specs.Turns.{Outcome, did, not_enabled, spent}
use Rattle.dc_base.specs.Cores.{core_step}
use Rattle.dc_base.specs.CoreRuns.{Run, after_outcome, run_all, core_run, core_run_from}
use Rattle.dc_base.specs.Headline.{IsReportedRun}
use Rattle.dc_base.specs.Valid.{IsValid, IsValidScript, IsValidSchedule}
use Rattle.dc_top.specs.Calls.{IsReportedText, TellsPlay, Wrote, behind_play}
use Rattle.dc_top.specs.Contents.{Contents, Files, OfFiles}
use Rattle.dc_top.specs.Halts.{IsReady}
use Rattle.dc_top.specs.Written.{PlaysAs}
use Rattle.dc_top.proofs.Answers.{plays_whole, followed}

-- the laws over the definitions that are called
abbrev pub Reported : Type 0
Reported = (image : Image) (script : List ScriptLine) (schedule : List (Actor × Action)) → IsValid image → IsValidScript (settings_of image) script →
    IsReportedRun image script (core_run image script schedule).journal (report_lines (core_run image script schedule).state)

abbrev pub EachEntry : (Entry → Bool) → Type 0
EachEntry p = (image : Image) (script : List ScriptLine) (schedule : List (Actor × Action)) → IsValid image → IsValidScript (settings_of image) script → IsTrue (list_all p (core_run image script schedule).journal)

-- the lines of entries begin with their tickets
abbrev pub InOrder : Type 0
InOrder = (es : List Entry) (rest : List ℕ) → length es ≤ 10 ^ 10 → map ticket_of (take (length es) (lines_of (journal_text es ++ rest))) ≡ map Some (range_with_len 0 (length es))

-- an action makes at most one entry
one_entry : (r : Run) (a : Action) (o : Outcome) → length (after_outcome r a o).journal ≤ length r.journal + 1
one_entry r a (did changes e) = omega (arith, length-append r.journal (e ∷ []))
one_entry r a (not_enabled why) = omega arith
one_entry r a spent = omega arith

few_entries : (r : Run) (schedule : List (Actor × Action)) → length (run_all r schedule).journal ≤ length r.journal + length schedule
few_entries r [] = omega arith
few_entries r (a ∷ more) =
    let one = one_entry r a.1 (core_step r.state r.polls a.0 a.1) in
    let further = few_entries (after_outcome r a.1 (core_step r.state r.polls a.0 a.1)) more in
    omega (arith, one, further)

short_journal : (image : Image) (script : List ScriptLine) (schedule : List (Actor × Action)) → length schedule ≤ longest_schedule → length (core_run image script schedule).journal ≤ 10 ^ 10
unfolding core_run core_run_from
short_journal image script schedule most =
    let few = few_entries (record { state = core_start image script; polls = 0; journal = []; skipped = 0 }) schedule in
    omega (arith, few, most)

report_follows : (r : Run) → EndsJournal (report_text (report_lines r.state) ++ behind_play r.skipped)
unfolding report_text
report_follows r = inr (_, refl)

-- the text is the journal, the report and the rest
parts_of : (r : Run) → played_text r ≡ journal_text r.journal ++ report_text (report_lines r.state) ++ behind_play r.skipped
unfolding played_text
parts_of r = append_assoc (journal_text r.journal ++ report_text (report_lines r.state)) (ended (skipped_text r.skipped)) (ended end_text)

behind_journal : (r : Run) → played_text r ≡ journal_text r.journal ++ (report_text (report_lines r.state) ++ behind_play r.skipped)
behind_journal r = parts_of r ∙ append_assoc (journal_text r.journal) (report_text (report_lines r.state)) (behind_play r.skipped)

module _ (reported : Reported) (lines : EachEntry has_line) (ranges : EachEntry is_in_range) (reads : SpelledReads) (in_order : InOrder) where
  text_told : (i : Image) (s : List ScriptLine) (schedule : List (Actor × Action)) → IsValid i → IsValidScript (settings_of i) s → length schedule ≤ longest_schedule →
      IsReportedText i s (behind_play (core_run i s schedule).skipped) (play_text i s schedule)
  unfolding play_text
  text_told i s schedule valid suits most = record {
    journal = (core_run i s schedule).journal;
    report = report_lines (core_run i s schedule).state;
    spelled = parts_of (core_run i s schedule);
    read = ap journal_of (behind_journal (core_run i s schedule))
        ∙ reads (core_run i s schedule).journal (report_text (report_lines (core_run i s schedule).state) ++ behind_play (core_run i s schedule).skipped)
        (lines i s schedule valid suits) (ranges i s schedule valid suits) (report_follows (core_run i s schedule));
    tickets = ap (λ (text : List ℕ). map ticket_of (take (length (core_run i s schedule).journal) (lines_of text))) (behind_journal (core_run i s schedule))
        ∙ in_order (core_run i s schedule).journal (report_text (report_lines (core_run i s schedule).state) ++ behind_play (core_run i s schedule).skipped) (short_journal i s schedule most);
    reported = reported i s schedule valid suits;
  }

  module _ (image script schedule : List ℕ) (files : Files) (before after : Option (List ℕ)) (f g : ℕ) (i : Image) (s : List ScriptLine) (a : List (Actor × Action)) where
    ready_tells : (result : ℕ) → IsValid i → IsValidScript (settings_of i) s → IsValidSchedule (settings_of i) a → PlaysAs f g before after (play_text i s a) result → result ≡ 0 → (bytes : Contents) →
        IsReady bytes.image bytes.script bytes.schedule i s a → Wrote before after (TellsPlay bytes.image bytes.script bytes.schedule)
    ready_tells result valid suits fits w is_0 bytes ready = λ taken held.
        let adds = plays_whole f g before after (play_text i s a) result w is_0 in (
          play_text i s a,
          adds.added taken held,
          record {
            machine = record { image = i; script = s };
            actions = a;
            described = ready.inputs;
            scheduled = ready.actions;
            told = text_told i s a valid suits fits.most;
          },
        )

    pub played_tells : (result : ℕ) → OfFiles files image script schedule (λ bytes. IsReady bytes.image bytes.script bytes.schedule i s a) → IsValid i → IsValidScript (settings_of i) s →
        IsValidSchedule (settings_of i) a → PlaysAs f g before after (play_text i s a) result → result ≡ 0 →
        OfFiles files image script schedule (λ bytes. Wrote before after (TellsPlay bytes.image bytes.script bytes.schedule))
    played_tells result ready valid suits fits w is_0 =
        followed files image script schedule (λ bytes. IsReady bytes.image bytes.script bytes.schedule i s a) (λ bytes. Wrote before after (TellsPlay bytes.image bytes.script bytes.schedule))
        (ready_tells result valid suits fits w is_0) ready
