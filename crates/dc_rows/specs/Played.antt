-- What a schedule and a journal come to, all in one record.
use Rattle.std.specs.Prelude.{ℕ, List, [], ◌∷◌, Bool, Option, Some, None, is_some, map}
use Rattle.std.specs.Option.{option_map}
use Rattle.dc_base.specs.declared.actions.Actor.{Actor}
use Rattle.dc_base.specs.declared.actions.Action.{Action}
use Rattle.dc_base.specs.declared.images.Image.{Image}
use Rattle.dc_base.specs.declared.commands.ScriptLine.{ScriptLine}
use Rattle.dc_base.specs.declared.entries.Entry.{Entry}
use Rattle.dc_base.specs.declared.entries.Reason.{Reason}
use Rattle.dc_base.specs.declared.reports.ReportLine.{ReportLine}
use Rattle.dc_base.specs.States.{core_start}
use Rattle.dc_base.specs.Turns.{Outcome, did, not_enabled, spent}
use Rattle.dc_base.specs.Cores.{core_step}
use Rattle.dc_base.specs.CoreRuns.{Run, after_outcome, core_run, own_schedule}
use Rattle.dc_base.specs.Report.{report_lines}
use Rattle.dc_base.specs.PlayText.{play_text}
use Rattle.dc_base.specs.Runs.{Seen, run, first_bad}
use Rattle.dc_base.specs.Shown.{ShownLine, shown}

-- the reasons of the actions that made no entry, with none for an action that was spent
abbrev pub reasons_after : Run → Action → Outcome → (Run → List (Option Reason)) → List (Option Reason)
reasons_after r a (did changes e) more = more (after_outcome r a (did changes e))
reasons_after r a (not_enabled why) more = Some why ∷ more (after_outcome r a (not_enabled why))
reasons_after r a spent more = None ∷ more (after_outcome r a spent)

abbrev pub reasons_from : Run → List (Actor × Action) → List (Option Reason)
reasons_from r [] = []
reasons_from r (a ∷ more) = reasons_after r a.1 (core_step r.state r.polls a.0 a.1) (λ next. reasons_from next more)

abbrev pub reasons : Image → List ScriptLine → List (Actor × Action) → List (Option Reason)
reasons image lines schedule = reasons_from (record { state = core_start image lines; polls = 0; journal = []; skipped = 0 }) schedule

pub record Played : Type 0 where
  pub journal : List Entry
  pub skipped : ℕ
  pub reasons : List (Option Reason)
  pub report : List ReportLine
  pub text : List ℕ
  -- the journal of the schedule that the journal shows
  pub again : List Entry

abbrev pub played : Image → List ScriptLine → List (Actor × Action) → Played
played image lines schedule =
    let r = core_run image lines schedule in
    record {
      journal = r.journal;
      skipped = r.skipped;
      reasons = reasons image lines schedule;
      report = report_lines r.state;
      text = play_text image lines schedule;
      again = (core_run image lines (own_schedule lines r.journal)).journal;
    }

pub record Judged : Type 0 where
  pub is_run : Bool
  -- what a report of the last state must say
  pub shown : Option (List ShownLine)

abbrev pub judged : Image → List ScriptLine → List Entry → Judged
judged image lines journal =
    let seen = run image lines journal in
    record { is_run = is_some seen; shown = option_map (λ (s : Seen). shown s.blocks) seen }

abbrev pub first_bads : Image → List ScriptLine → List (List Entry) → List (Option ℕ)
first_bads image lines journals = map (first_bad image lines) journals
