-- What a run leaves, and its text.
use Rattle.std.proofs.Common.{◌≡◌, ◌≤◌, ◌+◌, ◌*◌, ◌^◌, ℕ, suc, List, [], ◌∷◌, length, refl, sym, ap, ◌∙◌, subst, arith}
use Rattle.std.specs.Prelude.{IsTrue, map}
use Rattle.std.specs.List.{list_all}
use Rattle.dc_base.specs.declared.actions.Actor.{Actor}
use Rattle.dc_base.specs.declared.actions.Action.{Action}
use Rattle.dc_base.specs.declared.commands.ScriptLine.{ScriptLine}
use Rattle.dc_base.specs.declared.entries.Entry.{Entry}
use Rattle.dc_base.specs.declared.images.Image.{Image}
use Rattle.dc_base.specs.CoreRuns.{core_run, own_schedule}
use Rattle.dc_base.specs.EntryRanges.{has_line}
use Rattle.dc_base.specs.Histories.{IsLawfulHistory, after, entries_in}
use Rattle.dc_base.specs.Objects.{objects, HasSizes}
use Rattle.dc_base.specs.PlayText.{AreCoresAtRest, IsAnswered, IsRunJournal}
use Rattle.dc_base.specs.Sound.{IsSound}
use Rattle.dc_base.specs.States.{State, Settings, core_start, settings_of}
use Rattle.dc_crew.specs.declared.ends.Ended.{Ended}
use Rattle.dc_crew.specs.Machines.{Staged}
use Rattle.dc_numbered.specs.Rooms.{Room, HasRoom}
use Rattle.dc_runs.specs.Awaits.{AreGivenUpAtRest}
use Rattle.dc_scene.specs.Objects.{object_seen}
use Rattle.dc_stage.specs.History.{Log}
use Rattle.dc_run.specs.Endings.{HasText}
use Rattle.dc_run.specs.Openings.{IsStageOf}
use Rattle.dc_run.specs.Running.{HasRun}
use Rattle.dc_run.specs.Texts.{text_of}

-- the same as HasRun, from this start with these settings
record IsRunFrom (t : Settings) (s : State) (r : Ended) : Type 0 where
  history : Log Entry
  lawful : IsLawfulHistory t s history
  entries : r.journal.items ≡ entries_in history
  objects_are : map object_seen r.objects.items ≡ objects (after s history)
  answered : IsAnswered (after s history)
  at_rest : AreCoresAtRest (after s history)
  given_up : AreGivenUpAtRest s history

run_from : (st : Staged) (r : Ended) → HasRun st r → IsRunFrom st.scene.settings st.scene.start r
run_from st r h = record {
  history = h.history;
  lawful = h.lawful;
  entries = h.entries;
  objects_are = h.objects_are;
  answered = h.answered;
  at_rest = h.at_rest;
  given_up = h.given_up;
}

-- a state of the same sizes has as much room
room_stays : (t : Settings) (s u : State) (kinds : Room) → HasSizes t s → HasSizes t u → HasRoom s kinds → HasRoom u kinds
room_stays t s u kinds a b room = record {
  cores = let x = a.cores in let y = b.cores in let n = room.cores in omega (arith, x, y, n);
  blocks = let x = a.blocks in let y = b.blocks in let n = room.blocks in omega (arith, x, y, n);
  channels = let x = a.channels in let y = b.channels in let n = room.channels in omega (arith, x, y, n);
  lines = let x = a.lines in let y = b.lines in let n = room.lines in omega (arith, x, y, n);
  mailboxes = let x = a.mailboxes in let y = b.mailboxes in let n = room.mailboxes in omega (arith, x, y, n);
  consoles = let x = a.consoles in let y = b.consoles in let n = room.consoles in omega (arith, x, y, n);
}

-- a history has as many entries as its journal
as_many : (log : Log Entry) → length (entries_in log) ≡ length log
as_many [] = refl
as_many (e ∷ log) = ap suc (as_many log)

module _ (image : Image) (lines : List ScriptLine) where
  abbrev t : Settings
  t = settings_of image

  abbrev start : State
  start = core_start image lines

  -- what is known of all histories of this machine
  pub record AreKnown : Type 0 where
    pub journals : (log : Log Entry) → IsLawfulHistory t start log → IsAnswered (after start log) → AreCoresAtRest (after start log) →
        AreGivenUpAtRest start log → IsRunJournal image lines (entries_in log)
    pub states : (log : Log Entry) → IsLawfulHistory t start log → (core_run image lines (own_schedule lines (entries_in log))).state ≡ after start log
    pub short : (log : Log Entry) → IsLawfulHistory t start log → length log ≤ 241664 + 5 * length lines
    pub few : length lines ≤ 4096
    pub lined : (schedule : List (Actor × Action)) → IsTrue (list_all has_line (core_run image lines schedule).journal)
    pub sound : (log : Log Entry) → IsLawfulHistory t start log → IsSound (after start log)

  module _ (st : Staged) (of : IsStageOf image lines st) where
    run_of : (r : Ended) → HasRun st r → IsRunFrom t start r
    run_of r h =
        subst (λ (u : Settings). IsRunFrom u start r) of.settings
        (subst (λ (s : State). IsRunFrom st.scene.settings s r) of.start (run_from st r h))

    -- the state after each history of the stage has the sizes that its settings say
    abbrev AreSized : Type 0
    AreSized = (log : Log Entry) → HasSizes st.scene.settings (after st.scene.start log)

    sizes_of : AreSized → (log : Log Entry) → HasSizes t (after start log)
    sizes_of h =
        subst (λ (u : Settings). (log : Log Entry) → HasSizes u (after start log)) of.settings
        (subst (λ (s : State). (log : Log Entry) → HasSizes st.scene.settings (after s log)) of.start h)

    module _ (known : AreKnown) (sizes : AreSized) (kinds : Room) (room : HasRoom start kinds) where
      pub has_text : (r : Ended) → HasRun st r → HasText image lines kinds r
      has_text r ran =
          let h = run_of r ran in
          let there = sizes_of sizes in
          let journal : IsRunJournal image lines r.journal.items =
          subst (λ (es : List Entry). IsRunJournal image lines es) (sym h.entries) (known.journals h.history h.lawful h.answered h.at_rest h.given_up) in
          let state : (core_run image lines (own_schedule lines r.journal.items)).state ≡ after start h.history =
          ap (λ (es : List Entry). (core_run image lines (own_schedule lines es)).state) h.entries ∙ known.states h.history h.lawful in
          record {
            state = after start h.history;
            lined = subst (λ (es : List Entry). IsTrue (list_all has_line es)) journal.own (known.lined (own_schedule lines r.journal.items));
            short =
                let as_long = ap length h.entries ∙ as_many h.history in
                let short = known.short h.history h.lawful in
                let few = known.few in
                omega (arith, as_long, short, few);
            objects_are = h.objects_are;
            room = room_stays t start (after start h.history) kinds (there []) (there h.history) room;
            sound = known.sound h.history h.lawful;
            run = journal;
            text = ap (λ (s : State). text_of r.journal.items s) (sym state);
          }
