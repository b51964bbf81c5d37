-- What a step answers, and what was written of it.
use Rattle.std.proofs.Common.{◌≡◌, ℕ, ◌+◌, List, Bool, true, false, Option, Some, Result, Ok, Err, refl, sym, subst}
use Rattle.std.specs.Prelude.{IsTrue, slice_get}
use Rattle.dc_base.specs.declared.actions.Actor.{Actor}
use Rattle.dc_base.specs.declared.actions.Action.{Action}
use Rattle.dc_base.specs.declared.entries.Entry.{Entry}
use Rattle.dc_base.specs.EntryText.{journal_text}
use Rattle.dc_base.specs.CoreRuns.{core_run_from}
use Rattle.dc_base.specs.EntryRanges.{has_line}
use Rattle.dc_base.specs.States.{State, Settings}
use Rattle.dc_base.specs.Sound.{IsSound}
use Rattle.dc_base.specs.Turns.{Outcome, did, not_enabled, spent}
use Rattle.dc_base.specs.Changes.{apply}
use Rattle.dc_base.specs.Cores.{core_step}
use Rattle.dc_io.specs.declared.sinks.Failed.{Failed}
use Rattle.dc_io.specs.Told.{AddsPrefix}
use Rattle.dc_machine.specs.Answers.{Answers, polls_then}
use Rattle.dc_bodies.specs.declared.stops.Stepped.{Stepped}
use Rattle.dc_bodies.specs.declared.stops.Stepped.TheVariants as stepped
use Rattle.dc_ranges.proofs.RunEntries.{KeepsSound}
use Rattle.dc_ranges.proofs.Shown.{Shows}
use Rattle.dc_play.specs.Played.{PlaysTo, IsSized}
use Rattle.dc_play.specs.Playing.{IsPlaying}
use Rattle.dc_play.proofs.Actions.{sized_after}
use Rattle.dc_play.proofs.Playing.{makes, is_not_enabled, is_spent, fails}

module _ (old new : State) where
  -- an entry that a step answers has a line
  pub has_its_line : (o : Outcome) (r : Stepped) (e : Entry) → r ≡ stepped.Did e → Answers r old new o → Shows o → IsTrue (has_line e)
  has_its_line (did changes x) r e h a shown = let same : x ≡ e = cc in subst (λ (y : Entry). IsTrue (has_line y)) same shown.0
  has_its_line (not_enabled why) r e h a shown = cc
  has_its_line spent r e h a shown = cc

  module _ (ticket : ℕ) (before after : Option (List ℕ)) (result : Result Bool Failed) where
    sound_by : KeepsSound → IsSound old → (polls : ℕ) (who : Actor) (a : Action) (o : Outcome) → core_step old polls who a ≡ o → PlaysTo old new ticket before after result o → IsSound new
    sound_by keeps p polls who a (did changes e) h g = subst IsSound (sym g.0) (keeps old polls who a changes e p h)
    sound_by keeps p polls who a (not_enabled why) h g = subst IsSound (sym g.0) p
    sound_by keeps p polls who a spent h g = subst IsSound (sym g.0) p

    pub stays_sound : KeepsSound → IsSound old → (polls : ℕ) (who : Actor) (a : Action) → PlaysTo old new ticket before after result (core_step old polls who a) → IsSound new
    stays_sound keeps p polls who a g = sound_by keeps p polls who a (core_step old polls who a) refl g

    -- no action makes or removes an object
    pub stays_sized : (t : Settings) → IsSized t old → IsSound old → IsSound new → (o : Outcome) → PlaysTo old new ticket before after result o → IsSized t new
    stays_sized t z p q (did changes e) g = subst (λ (s : State). IsSized t s) (sym g.0) (sized_after t old changes z p (subst IsSound g.0 q))
    stays_sized t z p q (not_enabled why) g = subst (λ (s : State). IsSized t s) (sym g.0) z
    stays_sized t z p q spent g = subst (λ (s : State). IsSized t s) (sym g.0) z

module _ (start : State) (schedule : List (Actor × Action)) (i : ℕ) (told now : Option (List ℕ)) (state : State) (polls entries skipped : ℕ) (p : IsPlaying start schedule i told now state polls entries skipped)
    (a : Actor × Action) (there : slice_get schedule i ≡ Some a) (after : State) (then : ℕ) (later : Option (List ℕ)) where
  made_by : (o : Outcome) → core_step state polls a.0 a.1 ≡ o → PlaysTo state after entries now later (Ok true) o → then ≡ polls_then a.1 polls o →
      IsPlaying start schedule (i + 1) told later after then (entries + 1) skipped
  made_by (did changes e) h g k =
      subst (λ (s : State). IsPlaying start schedule (i + 1) told later s then (entries + 1) skipped) (sym g.0)
      (subst (λ (n : ℕ). IsPlaying start schedule (i + 1) told later (apply state changes) n (entries + 1) skipped) (sym k)
      (makes start schedule i told now state polls entries skipped p a there changes e later h g.1.1))
  made_by (not_enabled why) h g k = cc
  made_by spent h g k = cc

  passed_by : (o : Outcome) → core_step state polls a.0 a.1 ≡ o → PlaysTo state after entries now later (Ok false) o → then ≡ polls_then a.1 polls o →
      IsPlaying start schedule (i + 1) told later after then entries (skipped + 1)
  passed_by (did changes e) h g k = cc
  passed_by (not_enabled why) h g k =
      subst (λ (s : State). IsPlaying start schedule (i + 1) told later s then entries (skipped + 1)) (sym g.0)
      (subst (λ (n : ℕ). IsPlaying start schedule (i + 1) told later state n entries (skipped + 1)) (sym k)
      (subst (λ (l : Option (List ℕ)). IsPlaying start schedule (i + 1) told l state (polls_then a.1 polls (not_enabled why)) entries (skipped + 1)) (sym g.2)
      (is_not_enabled start schedule i told now state polls entries skipped p a there why h)))
  passed_by spent h g k =
      subst (λ (s : State). IsPlaying start schedule (i + 1) told later s then entries (skipped + 1)) (sym g.0)
      (subst (λ (n : ℕ). IsPlaying start schedule (i + 1) told later state n entries (skipped + 1)) (sym k)
      (subst (λ (l : Option (List ℕ)). IsPlaying start schedule (i + 1) told l state polls entries (skipped + 1)) (sym g.2)
      (is_spent start schedule i told now state polls entries skipped p a there h)))

  failed_by : (f : Failed) (o : Outcome) → core_step state polls a.0 a.1 ≡ o → PlaysTo state after entries now later (Err f) o → AddsPrefix told later (journal_text (core_run_from start schedule).journal)
  failed_by f (did changes e) h g = fails start schedule i told now state polls entries skipped p a there changes e later h g.1
  failed_by f (not_enabled why) h g = cc
  failed_by f spent h g = cc

  pub goes_on_made : (b : Bool) (ticket none : ℕ) → b ≡ true → ticket ≡ entries + 1 → none ≡ skipped → PlaysTo state after entries now later (Ok b) (core_step state polls a.0 a.1) →
      then ≡ polls_then a.1 polls (core_step state polls a.0 a.1) → IsPlaying start schedule (i + 1) told later after then ticket none
  goes_on_made b ticket none is_made t s g k =
      subst (λ (n : ℕ). IsPlaying start schedule (i + 1) told later after then n none) (sym t)
      (subst (λ (n : ℕ). IsPlaying start schedule (i + 1) told later after then (entries + 1) n) (sym s)
      (made_by (core_step state polls a.0 a.1) refl (subst (λ (x : Bool). PlaysTo state after entries now later (Ok x) (core_step state polls a.0 a.1)) is_made g) k))

  pub goes_on_passed : (b : Bool) (ticket none : ℕ) → b ≡ false → ticket ≡ entries → none ≡ skipped + 1 → PlaysTo state after entries now later (Ok b) (core_step state polls a.0 a.1) →
      then ≡ polls_then a.1 polls (core_step state polls a.0 a.1) → IsPlaying start schedule (i + 1) told later after then ticket none
  goes_on_passed b ticket none is_none t s g k =
      subst (λ (n : ℕ). IsPlaying start schedule (i + 1) told later after then n none) (sym t)
      (subst (λ (n : ℕ). IsPlaying start schedule (i + 1) told later after then entries n) (sym s)
      (passed_by (core_step state polls a.0 a.1) refl (subst (λ (x : Bool). PlaysTo state after entries now later (Ok x) (core_step state polls a.0 a.1)) is_none g) k))

  pub ends_failed : (f : Failed) → PlaysTo state after entries now later (Err f) (core_step state polls a.0 a.1) → AddsPrefix told later (journal_text (core_run_from start schedule).journal)
  ends_failed f g = failed_by f (core_step state polls a.0 a.1) refl g
