-- The run of a schedule: its journal is a run, and its last state stands for what that comes to.
use Rattle.std.proofs.Common.{◌≡◌, List, [], ◌∷◌, Option, Some, None, refl, sym, ap, ◌∙◌}
use Rattle.dc_base.specs.declared.actions.Actor.{Actor}
use Rattle.dc_base.specs.declared.actions.Action.{Action}
use Rattle.dc_base.specs.declared.commands.ScriptLine.{ScriptLine}
use Rattle.dc_base.specs.declared.entries.Entry.{Entry}
use Rattle.dc_base.specs.Words.{bind}
use Rattle.dc_base.specs.States.{State, Settings}
use Rattle.dc_base.specs.Changes.{Change}
use Rattle.dc_base.specs.Turns.{Outcome, did, not_enabled, spent}
use Rattle.dc_base.specs.Cores.{core_step}
use Rattle.dc_base.specs.CoreRuns.{Run, after_outcome, run_all, core_run_from}
use Rattle.dc_base.specs.StandsFor.{StandsFor}
use Rattle.dc_base.specs.StrikeOut.{Told, told_after}
use Rattle.dc_base.specs.Holders.{held_from}
use Rattle.dc_base.specs.Runs.{Terms, Seen, run_step, run_from, boot_from}
use Rattle.dc_base.specs.Sound.{IsSound}
use Rattle.dc_base.specs.Telling.{IsOf, Agrees}
use Rattle.dc_base.proofs.RunLaws.{run_from-append, run_step-comes}
use Rattle.dc_refine.specs.Kept.{SoundnessStays}
use Rattle.dc_refine.proofs.Follow.{SameScript}
use Rattle.dc_refine.proofs.Turns.{entries_all, script_all}

-- what a run from a start has come to
pub record IsReached (terms : Terms) (lines : List ScriptLine) (start : State) (n : Seen) (r : Run) : Type 0 where
  pub seen : Seen
  pub run : run_from terms lines n r.journal ≡ Some seen
  pub sound : IsSound r.state
  pub stands : StandsFor r.state seen.blocks
  pub agrees : Agrees r.state seen
  pub same_script : SameScript start r.state

-- the terms and the lines are those of the start
of_script : (terms : Terms) (lines : List ScriptLine) (s m : State) → IsOf terms lines s → SameScript s m → IsOf terms lines m
of_script terms lines s m of same = record {
  same_terms = of.same_terms ∙ ap (λ (t : Settings). record { quantum = t.quantum; clocks = t.clocks }) (sym same.settings);
  same_lines = of.same_lines ∙ sym same.lines;
}

module _ (stays : SoundnessStays) (terms : Terms) (lines : List ScriptLine) (start : State) (of : IsOf terms lines start) (n : Seen) where
  one_more : (r : Run) (a : Action) (changes : List Change) (e : Entry) (who : Actor) → IsReached terms lines start n r → core_step r.state r.polls who a ≡ did changes e → IsReached terms lines start n (after_outcome r a (did changes e))
  one_more r a changes e who reached h =
      let of_now = of_script terms lines start r.state of reached.same_script in
      let follows = entries_all terms lines r.state reached.seen reached.seen.blocks r.polls who a changes e reached.sound reached.stands reached.agrees refl of_now h in
      let same = script_all terms lines r.state reached.seen.blocks r.polls who a changes e reached.sound reached.stands of_now h in
      record {
        seen = follows.next;
        run =
            run_from-append terms lines n r.journal (e ∷ [])
            ∙ ap (λ o. bind o (λ m. run_from terms lines m (e ∷ []))) reached.run
            ∙ ap (λ o. bind o (λ m. run_from terms lines m [])) follows.step;
        sound = stays r.state r.polls who a changes e reached.sound h;
        stands = follows.stands;
        agrees = follows.agrees;
        same_script = record { settings = same.settings ∙ reached.same_script.settings; lines = same.lines ∙ reached.same_script.lines };
      }

  by_outcome : (r : Run) (who : Actor) (a : Action) → IsReached terms lines start n r → (o : Outcome) → core_step r.state r.polls who a ≡ o → IsReached terms lines start n (after_outcome r a o)
  by_outcome r who a reached (did changes e) h = one_more r a changes e who reached h
  by_outcome r who a reached (not_enabled why) h = record { seen = reached.seen; run = reached.run; sound = reached.sound; stands = reached.stands; agrees = reached.agrees; same_script = record { settings = reached.same_script.settings; lines = reached.same_script.lines } }
  by_outcome r who a reached spent h = record { seen = reached.seen; run = reached.run; sound = reached.sound; stands = reached.stands; agrees = reached.agrees; same_script = record { settings = reached.same_script.settings; lines = reached.same_script.lines } }

  all_reached : (r : Run) (schedule : List (Actor × Action)) → IsReached terms lines start n r → IsReached terms lines start n (run_all r schedule)
  all_reached r [] reached = reached
  all_reached r (a ∷ more) reached = all_reached (after_outcome r a.1 (core_step r.state r.polls a.0 a.1)) more (by_outcome r a.0 a.1 reached (core_step r.state r.polls a.0 a.1) refl)

  -- the run of a schedule from a sound start
  pub run-reached : IsSound start → StandsFor start n.blocks → Agrees start n → (schedule : List (Actor × Action)) → IsReached terms lines start n (core_run_from start schedule)
  unfolding core_run_from
  run-reached sound stands agrees schedule = all_reached (record { state = start; polls = 0; journal = []; skipped = 0 }) schedule
      (record { seen = n; run = refl; sound = sound; stands = stands; agrees = agrees; same_script = record { settings = refl; lines = refl } })

-- what a run tells of holders and of the boot state
module _ (terms : Terms) (lines : List ScriptLine) where
  held_by_step : (n : Seen) (e : Entry) (es : List Entry) (m : Seen) → ((k : Seen) → run_from terms lines k es ≡ Some m → m.told.holders ≡ held_from k.told.holders es) →
      (o : Option Seen) → run_step terms lines n e ≡ o → bind o (λ k. run_from terms lines k es) ≡ Some m → m.told.holders ≡ held_from n.told.holders (e ∷ es)
  unfolding told_after
  held_by_step n e es m more None f g = cc
  held_by_step n e es m more (Some k) f g =
      more k g ∙ ap (λ (t : Told). held_from t.holders es) (run_step-comes terms lines n e k f).told

  pub run_from-held : (n : Seen) (es : List Entry) (m : Seen) → run_from terms lines n es ≡ Some m → m.told.holders ≡ held_from n.told.holders es
  run_from-held n [] m g = let e : n ≡ m = cc in ap (λ (k : Seen). k.told.holders) (sym e)
  run_from-held n (e ∷ es) m g = held_by_step n e es m (λ k h. run_from-held k es m h) (run_step terms lines n e) refl g

  boot_by_step : (n : Seen) (e : Entry) (es : List Entry) (m : Seen) → ((k : Seen) → run_from terms lines k es ≡ Some m → m.boot ≡ boot_from k.boot es) →
      (o : Option Seen) → run_step terms lines n e ≡ o → bind o (λ k. run_from terms lines k es) ≡ Some m → m.boot ≡ boot_from n.boot (e ∷ es)
  boot_by_step n e es m more None f g = cc
  boot_by_step n e es m more (Some k) f g = more k g ∙ ap (λ r. boot_from r es) (run_step-comes terms lines n e k f).boot

  pub run_from-boot : (n : Seen) (es : List Entry) (m : Seen) → run_from terms lines n es ≡ Some m → m.boot ≡ boot_from n.boot es
  run_from-boot n [] m g = let e : n ≡ m = cc in ap (λ (k : Seen). k.boot) (sym e)
  run_from-boot n (e ∷ es) m g = boot_by_step n e es m (λ k h. run_from-boot k es m h) (run_step terms lines n e) refl g
