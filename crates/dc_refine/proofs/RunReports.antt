-- The journal and the report of a schedule's run promise together what they are to promise.
use Rattle.std.proofs.Common.{◌≡◌, ℕ, List, [], ◌∷◌, ◌++◌, true, Some, refl, sym, ap, ◌∙◌, subst, append_assoc, map, length}
use Rattle.std.specs.Prelude.{is_some}
use Rattle.std.specs.List.{range_with_len}
use Rattle.std.proofs.lemmas.List.{length-map}
use Rattle.dc_base.specs.declared.images.Image.{Image}
use Rattle.dc_base.specs.declared.actions.Actor.{Actor}
use Rattle.dc_base.specs.declared.actions.Action.{Action}
use Rattle.dc_base.specs.declared.commands.Refusal.{Refusal}
use Rattle.dc_base.specs.declared.commands.ScriptLine.{ScriptLine}
use Rattle.dc_base.specs.declared.entries.Entry.{Entry}
use Rattle.dc_base.specs.declared.entries.What.TheVariants as what
use Rattle.dc_base.specs.Parts.{Parts}
use Rattle.dc_base.specs.Boot.{Registry}
use Rattle.dc_base.specs.Actions.{action_of}
use Rattle.dc_base.specs.Blocks as blocks
use Rattle.dc_base.specs.States.{State, Block, Settings, core_start}
use Rattle.dc_base.specs.CoreRuns.{Run, core_run_from, core_run, own_schedule}
use Rattle.dc_base.specs.StandsFor.{StandsFor}
use Rattle.dc_base.specs.Holders.{held_once}
use Rattle.dc_base.specs.Runs.{Seen, seen_start, run_from, run}
use Rattle.dc_base.specs.Report.{report_lines}
use Rattle.dc_base.specs.Shown.{shown, all_shown_by}
use Rattle.dc_base.specs.Origins.{Origin, image_origin}
use Rattle.dc_base.specs.Headline.{blocks_reported, holder_of, held_after_all, boot_after_all, own_run_of, state_after_all, blocks_held, holders_by_number, IsRefused, moved_on, IsReportedRunOf, IsReportedRun}
use Rattle.dc_base.specs.Openings.{IsOpening, blocks_opened, opening_origin, IsReportedRunFrom}
use Rattle.dc_base.specs.Sound.{IsSound}
use Rattle.dc_base.specs.Progress.{boot_of}
use Rattle.dc_base.specs.Telling.{Agrees, IsOf, holders_from}
use Rattle.dc_base.specs.Valid.{IsValid}
use Rattle.dc_base.proofs.RunLaws.{run_from-struck}
use Rattle.dc_refine.specs.Kept.{SoundnessStays}
use Rattle.dc_refine.proofs.Follow.{seen_agrees}
use Rattle.dc_refine.proofs.Turn.{held_once_from}
use Rattle.dc_refine.proofs.Reached.{IsReached, run-reached, run_from-held, run_from-boot}
use Rattle.dc_refine.proofs.Reports.{report_shows}
use Rattle.dc_refine.proofs.ReportedBlocks.{blocks-reported, holders-listed}
use Rattle.dc_refine.proofs.CoreStarts.{start_stands, start_agrees, start_is_of}
use Rattle.dc_refine.proofs.Opened.{opening_stands}
use Rattle.dc_refine.proofs.OwnSchedules.{AllLawful, after_all, after_snoc, lawful_first, lawful_rest, lawful_step, run_led, own_run_is, polls_once_of}
use Rattle.dc_refine.proofs.Refused.{refused-moves}
use Rattle.dc_refine.proofs.RefusedRows.{refused_in}

-- what a run may start from
pub record MayStart (o : Origin) : Type 0 where
  pub of : IsOf o.terms o.lines o.state
  pub sound : IsSound o.state
  pub stands : StandsFor o.state o.seen.blocks
  pub agrees : Agrees o.state o.seen

module _ (o : Origin) (start : MayStart o) (stays : SoundnessStays) (schedule : List (Actor × Action)) where
  abbrev r : Run
  r = core_run_from o.state schedule

  any_reached : (acts : List (Actor × Action)) → IsReached o.terms o.lines o.state o.seen (core_run_from o.state acts)
  any_reached acts = run-reached stays o.terms o.lines o.state start.of o.seen start.sound start.stands start.agrees acts

  reached : IsReached o.terms o.lines o.state o.seen r
  reached = any_reached schedule

  lawful : AllLawful o.state r.journal
  lawful = (run_led o.state schedule).lawful

  -- every block is there
  as_many : (s : State) (t : Seen) → StandsFor s t.blocks → length t.blocks.blocks ≡ length s.blocks
  as_many s t stands = sym (length-map t.blocks.blocks (λ (x : blocks.Block). x.parts)) ∙ ap (λ (ps : List Parts). length ps) stands.blocks.parts ∙ length-map s.blocks (λ (x : Block). x.control.parts)

  blocks_there : (m : Run) → IsReached o.terms o.lines o.state o.seen m → length m.state.blocks ≡ length o.seen.blocks.blocks
  blocks_there m at = at.sound.settled.blocks ∙ ap (λ (t : Settings). t.blocks) at.same_script.settings ∙ sym start.sound.settled.blocks ∙ sym (as_many o.state o.seen start.stands)

  holders_are : (m : Run) → IsReached o.terms o.lines o.state o.seen m → holders_from 0 m.state.blocks ≡ held_after_all o m.journal
  holders_are m at = sym at.agrees.holders ∙ run_from-held o.terms o.lines o.seen m.journal at.seen at.run

  boot_is : (m : Run) → IsReached o.terms o.lines o.state o.seen m → boot_of m.state ≡ boot_after_all o m.journal
  boot_is m at = sym at.agrees.boot ∙ run_from-boot o.terms o.lines o.seen m.journal at.seen at.run

  places_are : (m : Run) → IsReached o.terms o.lines o.state o.seen m → (boot_after_all o m.journal).places ≡ holders_by_number o m.journal
  unfolding boot_of holders_by_number
  places_are m at =
      ap (λ (g : Registry). g.places) (sym (boot_is m at))
      ∙ sym (holders-listed m.state.blocks)
      ∙ ap (λ hs. map (holder_of hs) (range_with_len 0 (length m.state.blocks))) (holders_are m at)
      ∙ ap (λ n. map (holder_of (held_after_all o m.journal)) (range_with_len 0 n)) (blocks_there m at)

  once_held : (m : Run) → IsReached o.terms o.lines o.state o.seen m → held_once (held_after_all o m.journal) ≡ true
  once_held m at = ap held_once (sym (holders_are m at)) ∙ held_once_from 0 m.state.blocks

  all_reported : blocks_reported (report_lines r.state) ≡ blocks_held o r.journal
  unfolding blocks_held
  all_reported =
      blocks-reported r.state
      ∙ ap (λ hs. map (λ b. (b, holder_of hs b)) (range_with_len 0 (length r.state.blocks))) (holders_are r reached)
      ∙ ap (λ n. map (λ b. (b, holder_of (held_after_all o r.journal) b)) (range_with_len 0 n)) (blocks_there r reached)

  -- the run of the schedule that lawful entries show
  own_at : (es : List Entry) → AllLawful o.state es → (IsReached o.terms o.lines o.state o.seen (own_run_of o es)) × ((own_run_of o es).journal ≡ es) × (state_after_all o es ≡ after_all o.state es)
  own_at es all =
      let own = own_run_is o.state es (polls_once_of o.state start.sound.settled) all in (
        any_reached (own_schedule o.lines es),
        ap (λ ls. (core_run_from o.state (own_schedule ls es)).journal) start.of.same_lines ∙ own.journal,
        ap (λ ls. (core_run_from o.state (own_schedule ls es)).state) start.of.same_lines ∙ own.state,
      )

  beginning : (before after : List Entry) → r.journal ≡ before ++ after → AllLawful o.state before
  beginning before after same = lawful_first o.state before after (subst (AllLawful o.state) same lawful)

  one_holder : (before after : List Entry) → r.journal ≡ before ++ after → held_once (held_after_all o before) ≡ true
  one_holder before after same =
      let own = own_at before (beginning before after same) in
      subst (λ es. held_once (held_after_all o es) ≡ true) own.1 (once_held (own_run_of o before) own.0)

  none_lost : (before after : List Entry) → r.journal ≡ before ++ after → (boot_after_all o before).places ≡ holders_by_number o before
  none_lost before after same =
      let own = own_at before (beginning before after same) in
      subst (λ es. (boot_after_all o es).places ≡ holders_by_number o es) own.1 (places_are (own_run_of o before) own.0)

  refused_only : (before after : List Entry) (e : Entry) (q : ℕ) (x : Refusal) → r.journal ≡ before ++ e ∷ after → e.what ≡ what.Refused q x → IsRefused o.lines q x (boot_after_all o before)
  refused_only before after e q x same is =
      let own = own_at before (beginning before (e ∷ after) same) in
      let whole = ap (run_from o.terms o.lines o.seen) (sym same) ∙ reached.run in
      let run = ap (run_from o.terms o.lines o.seen) (sym own.1) ∙ own.0.run in
      refused_in o.terms o.lines o.seen before after e q x reached.seen whole is own.0.seen run (boot_after_all o before)
      (run_from-boot o.terms o.lines o.seen before own.0.seen run)

  moves_on : (before after : List Entry) (e : Entry) (q : ℕ) (x : Refusal) → r.journal ≡ before ++ e ∷ after → e.what ≡ what.Refused q x → state_after_all o (before ++ e ∷ []) ≡ moved_on (state_after_all o before)
  moves_on before after e q x same is =
      let all = subst (AllLawful o.state) same lawful in
      let step = lawful_step (after_all o.state before) e (lawful_rest o.state before (e ∷ after) all).0 in
      let more : r.journal ≡ (before ++ e ∷ []) ++ after = same ∙ sym (append_assoc before (e ∷ []) after) in
      (own_at (before ++ e ∷ []) (beginning (before ++ e ∷ []) after more)).2
      ∙ after_snoc o.state before e
      ∙ step.next
      ∙ refused-moves (after_all o.state before) step.polls e.actor (action_of e.what) step.changes e q x step.step is
      ∙ ap moved_on (sym (own_at before (lawful_first o.state before (e ∷ after) all)).2)

  -- the run and its report
  pub run_reported : IsReportedRunOf o r.journal (report_lines r.state)
  run_reported = record {
    run = ap is_some reached.run;
    last = reached.seen.blocks;
    struck_out = run_from-struck o.terms o.lines o.seen r.journal reached.seen reached.run;
    shown = report_shows r.state reached.seen.blocks reached.sound reached.stands;
    one_holder = one_holder;
    none_lost = none_lost;
    all_reported = all_reported;
    own_run = (own_at r.journal lawful).1;
    refused_only = refused_only;
    moves_on = moves_on;
  }

  -- what the journal comes to
  seen_is : (seen : Seen) → run_from o.terms o.lines o.seen r.journal ≡ Some seen → reached.seen ≡ seen
  seen_is seen h = let e : Some reached.seen ≡ Some seen = sym reached.run ∙ h in cc

  pub run_stands : (seen : Seen) → run_from o.terms o.lines o.seen r.journal ≡ Some seen → StandsFor r.state seen.blocks
  run_stands seen h = subst (λ (n : Seen). StandsFor r.state n.blocks) (seen_is seen h) reached.stands

  pub run_agrees : (seen : Seen) → run_from o.terms o.lines o.seen r.journal ≡ Some seen → Agrees r.state seen
  run_agrees seen h = subst (Agrees r.state) (seen_is seen h) reached.agrees

  pub run_sound : IsSound r.state
  run_sound = reached.sound

-- the start of an image
start_may : (image : Image) (script : List ScriptLine) → IsValid image → IsSound (core_start image script) → MayStart (image_origin image script)
unfolding seen_start
start_may image script valid sound = record { of = start_is_of image script; sound = sound; stands = start_stands image script; agrees = start_agrees image script valid }

module _ (image : Image) (script : List ScriptLine) (schedule : List (Actor × Action)) (valid : IsValid image) (sound : IsSound (core_start image script)) (stays : SoundnessStays) where
  pub image_run_reported : IsReportedRun image script (core_run image script schedule).journal (report_lines (core_run image script schedule).state)
  unfolding core_run
  image_run_reported = run_reported (image_origin image script) (start_may image script valid sound) stays schedule

  pub image_run_stands : (seen : Seen) → run image script (core_run image script schedule).journal ≡ Some seen → StandsFor (core_run image script schedule).state seen.blocks
  unfolding core_run run
  image_run_stands = run_stands (image_origin image script) (start_may image script valid sound) stays schedule

  pub image_run_agrees : (seen : Seen) → run image script (core_run image script schedule).journal ≡ Some seen → Agrees (core_run image script schedule).state seen
  unfolding core_run run
  image_run_agrees = run_agrees (image_origin image script) (start_may image script valid sound) stays schedule

  pub image_run_sound : IsSound (core_run image script schedule).state
  unfolding core_run
  image_run_sound = run_sound (image_origin image script) (start_may image script valid sound) stays schedule

-- an opening
opening_may : (s : State) → IsOpening s → MayStart (opening_origin s)
opening_may s opening = record { of = record { same_terms = refl; same_lines = refl }; sound = opening.sound; stands = opening_stands s opening; agrees = seen_agrees s (blocks_opened s) }

module _ (s : State) (schedule : List (Actor × Action)) (opening : IsOpening s) (stays : SoundnessStays) where
  pub opening_run_reported : IsReportedRunFrom s (core_run_from s schedule).journal (report_lines (core_run_from s schedule).state)
  opening_run_reported = run_reported (opening_origin s) (opening_may s opening) stays schedule

  pub opening_run_stands : (seen : Seen) → run_from (opening_origin s).terms s.script.lines (opening_origin s).seen (core_run_from s schedule).journal ≡ Some seen → StandsFor (core_run_from s schedule).state seen.blocks
  opening_run_stands = run_stands (opening_origin s) (opening_may s opening) stays schedule

  pub opening_run_agrees : (seen : Seen) → run_from (opening_origin s).terms s.script.lines (opening_origin s).seen (core_run_from s schedule).journal ≡ Some seen → Agrees (core_run_from s schedule).state seen
  opening_run_agrees = run_agrees (opening_origin s) (opening_may s opening) stays schedule

  pub opening_run_sound : IsSound (core_run_from s schedule).state
  opening_run_sound = run_sound (opening_origin s) (opening_may s opening) stays schedule

  pub opening_run_shows : (seen : Seen) → run_from (opening_origin s).terms s.script.lines (opening_origin s).seen (core_run_from s schedule).journal ≡ Some seen → all_shown_by (report_lines (core_run_from s schedule).state) ≡ shown seen.blocks
  opening_run_shows seen h = report_shows (core_run_from s schedule).state seen.blocks opening_run_sound (opening_run_stands seen h)
