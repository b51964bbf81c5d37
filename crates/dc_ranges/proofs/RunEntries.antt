-- Every entry of a run is in range.
use Rattle.std.proofs.Common.{◌≡◌, ℕ, Bool, true, List, [], ◌∷◌, ◌++◌, refl, ◌∙◌}
use Rattle.std.specs.Prelude.{slice_get}
use Rattle.std.specs.List.{list_all}
use Rattle.std.proofs.lemmas.Bool.{and_from}
use Rattle.std.proofs.lemmas.List.Folds.{list_all-append}
use Rattle.dc_base.specs.declared.actions.Actor.{Actor}
use Rattle.dc_base.specs.declared.actions.Actor.TheVariants as actor
use Rattle.dc_base.specs.declared.actions.Action.{Action}
use Rattle.dc_base.specs.declared.actions.Action.TheVariants as action
use Rattle.dc_base.specs.declared.entries.Entry.{Entry}
use Rattle.dc_base.specs.EntryRanges.{has_line, is_in_range}
use Rattle.dc_base.specs.Changes.{Change, apply}
use Rattle.dc_base.specs.Cores.{turn_of, core_step}
use Rattle.dc_base.specs.CoreRuns.{Run, after_outcome, run_all, core_run_from}
use Rattle.dc_base.specs.Script.{next_raise}
use Rattle.dc_base.specs.Sound.{IsSound}
use Rattle.dc_base.specs.States.{State, Script}
use Rattle.dc_base.specs.Turns.{Outcome, did, not_enabled, spent}
use Rattle.dc_ranges.proofs.Shown.{Shows, Comes}
use Rattle.dc_ranges.proofs.CoreEntries.{core_comes}
use Rattle.dc_ranges.proofs.ScriptEntries.{script_comes, raise_comes}

turn_comes : (s : State) → IsSound s → (polls : Script → ℕ) (who : Actor) (a : Action) → Comes s (turn_of polls who a)
unfolding turn_of
turn_comes s p polls (actor.Core c) a = core_comes s p c.0 a (slice_get s.cores c.0) refl
turn_comes s p polls actor.Script action.Script = script_comes s p (polls s.script)
turn_comes s p polls actor.Script action.Raise = raise_comes s p (next_raise s.script.lines s.script.raises)
turn_comes s p polls actor.Script a = tt

pub step_shows : (s : State) → IsSound s → (polls : ℕ) (who : Actor) (a : Action) → Shows (core_step s polls who a)
unfolding core_step
step_shows s p polls who a = turn_comes s p (λ t. polls) who a

-- each action keeps soundness
abbrev pub KeepsSound : Type 0
KeepsSound = (s : State) (polls : ℕ) (who : Actor) (a : Action) (changes : List Change) (e : Entry) → IsSound s → core_step s polls who a ≡ did changes e → IsSound (apply s changes)

-- the state is sound, and the journal's entries are in range
pub record InRange (r : Run) : Type 0 where
  pub sound : IsSound r.state
  pub lined : list_all has_line r.journal ≡ true
  pub low : list_all is_in_range r.journal ≡ true

one_more : (test : Entry → Bool) (es : List Entry) (e : Entry) → list_all test es ≡ true → test e ≡ true → list_all test (es ++ e ∷ []) ≡ true
one_more test es e all one = list_all-append test es (e ∷ []) ∙ and_from _ _ all (and_from _ _ one refl)

after_in : KeepsSound → (r : Run) → InRange r → (who : Actor) (a : Action) (o : Outcome) → core_step r.state r.polls who a ≡ o → Shows o → InRange (after_outcome r a o)
after_in keeps r h who a (did changes e) at shown = record {
  sound = keeps r.state r.polls who a changes e h.sound at;
  lined = one_more has_line r.journal e h.lined shown.0;
  low = one_more is_in_range r.journal e h.low shown.1;
}
after_in keeps r h who a (not_enabled why) at shown = record { sound = h.sound; lined = h.lined; low = h.low }
after_in keeps r h who a spent at shown = record { sound = h.sound; lined = h.lined; low = h.low }

all_in : KeepsSound → (r : Run) → InRange r → (schedule : List (Actor × Action)) → InRange (run_all r schedule)
all_in keeps r h [] = h
all_in keeps r h (a ∷ more) =
    all_in keeps (after_outcome r a.1 (core_step r.state r.polls a.0 a.1)) (after_in keeps r h a.0 a.1 (core_step r.state r.polls a.0 a.1) refl (step_shows r.state h.sound r.polls a.0 a.1)) more

pub run_in : KeepsSound → (opening : State) (schedule : List (Actor × Action)) → IsSound opening → InRange (core_run_from opening schedule)
unfolding core_run_from
run_in keeps opening schedule sound = all_in keeps (record { state = opening; polls = 0; journal = []; skipped = 0 }) (record { sound = sound; lined = refl; low = refl }) schedule
