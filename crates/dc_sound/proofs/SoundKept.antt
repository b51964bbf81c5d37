-- Each action keeps soundness, and so each run does.
use Rattle.std.proofs.Common.{◌≡◌, List, [], ◌∷◌, refl, sym, subst}
use Rattle.dc_base.specs.declared.actions.Action.{Action}
use Rattle.dc_base.specs.declared.actions.Actor.{Actor}
use Rattle.dc_base.specs.declared.entries.Entry.{Entry}
use Rattle.dc_base.specs.Actions.{action_of, polls_of}
use Rattle.dc_base.specs.Changes.{Change, apply}
use Rattle.dc_base.specs.CoreRuns.{Run, after_outcome, run_all, core_run_from}
use Rattle.dc_base.specs.Cores.{core_step}
use Rattle.dc_base.specs.Histories.{IsLawful, next, changes_in}
use Rattle.dc_base.specs.Sound.{IsSound}
use Rattle.dc_base.specs.States.{State}
use Rattle.dc_base.specs.Turns.{Outcome, did, not_enabled, spent}
use Rattle.dc_sound.proofs.BlockParts.{shapes_kept, dispatchers_kept, words_kept, ports_kept, timers_kept, caps_kept, pending_is_short}
use Rattle.dc_sound.proofs.Counted.{counted_kept}
use Rattle.dc_sound.proofs.Counts.{counts_kept}
use Rattle.dc_sound.proofs.DeadlinesKept.{deadlines_kept}
use Rattle.dc_sound.proofs.DuesKept.{dues_kept}
use Rattle.dc_sound.proofs.EntryKinds.{Kind, kind_of, core_step-kind}
use Rattle.dc_sound.proofs.InForm.{form_kept}
use Rattle.dc_sound.proofs.LineSlices.{lines_kept}
use Rattle.dc_sound.proofs.Mailboxes.{mailboxes_kept}
use Rattle.dc_sound.proofs.Naming.{naming_kept}
use Rattle.dc_sound.proofs.NumbersKept.{numbers_kept}
use Rattle.dc_sound.proofs.Outsides.{rings_kept, consoles_kept}
use Rattle.dc_sound.proofs.PlacedOrders.{placed_kept}
use Rattle.dc_sound.proofs.PostsKept.{posts_kept}
use Rattle.dc_sound.proofs.Readiness.{readiness_kept}
use Rattle.dc_sound.proofs.Registered.{registered_kept}
use Rattle.dc_sound.proofs.Settled.{settled_kept}
use Rattle.dc_sound.proofs.ShareCounts.{shares_kept}
use Rattle.dc_sound.proofs.TimesKept.{clocked_kept}
use Rattle.dc_sound.proofs.Waiting.{standing_kept}

module _ (s : State) (chs : List Change) (e : Entry) (p : IsSound s) (k : Kind s chs e) where
  -- each part, from the parts that it uses
  pub sound_kept : IsSound (apply s chs)
  sound_kept =
      let short = pending_is_short s p.lines p.counted p.in_form p.settled in
      record {
        placed = placed_kept s chs e p.placed p.posts k;
        shares = shares_kept s chs e p.shares p.placed p.posts k;
        mailboxes = mailboxes_kept s chs e p.mailboxes p.in_form.posts.command k;
        posts = posts_kept s chs e p.placed p.mailboxes p.in_form p.registered p.settled p.posts k;
        registered = registered_kept s chs e p.placed p.shares p.mailboxes p.posts p.in_form p.settled p.registered k;
        in_form = form_kept s chs e p.in_form k;
        named = naming_kept s chs e p.named p.settled k;
        waiters = standing_kept s chs e p.waiters p.ready k;
        shapes = shapes_kept s chs e k p.shapes;
        dispatchers = dispatchers_kept s chs e k p.dispatchers;
        words = words_kept s chs e k p.words p.shapes p.named p.rings short;
        ports = ports_kept s chs e k p.ports;
        ready = readiness_kept s chs e p.ready k;
        timers = timers_kept s chs e k p.timers;
        caps = caps_kept s chs e k p.caps p.shapes p.lines;
        rings = rings_kept s chs e p.rings p.words p.shapes p.named short k;
        consoles = consoles_kept s chs e p.consoles p.words p.shapes p.named p.rings short k;
        counts = counts_kept s chs e p.counts k;
        lines = lines_kept s chs e p.lines p.shapes p.caps k;
        clocked = clocked_kept s chs e p.clocked p.deadlines p.placed p.posts p.settled k;
        dues = dues_kept s chs e k p.dues p.dispatchers;
        deadlines = deadlines_kept s chs e k p.deadlines p.words p.clocked p.placed p.posts p.settled;
        numbers = numbers_kept s chs e k p.numbers;
        counted = counted_kept s chs e k p.counted;
        settled = settled_kept s chs e p.settled k;
      }

-- one action of a run
outcome_sound : (r : Run) (who : Actor) (a : Action) → IsSound r.state → (o : Outcome) → core_step r.state r.polls who a ≡ o → IsSound (after_outcome r a o).state
outcome_sound r who a p (did chs e) g = sound_kept r.state chs e p (core_step-kind r.state r.polls who a chs e g)
outcome_sound r who a p (not_enabled why) g = p
outcome_sound r who a p spent g = p

pub all_sound : (schedule : List (Actor × Action)) (r : Run) → IsSound r.state → IsSound (run_all r schedule).state
all_sound [] r p = p
all_sound (a ∷ more) r p = all_sound more (after_outcome r a.1 (core_step r.state r.polls a.0 a.1)) (outcome_sound r a.0 a.1 p (core_step r.state r.polls a.0 a.1) refl)

-- a run from a sound state
pub run_sound : (opening : State) (schedule : List (Actor × Action)) → IsSound opening → IsSound (core_run_from opening schedule).state
unfolding core_run_from
run_sound opening schedule p = all_sound schedule _ p

-- an entry that the machine makes in a sound state leads to a sound state
pub entry_sound : (s : State) (e : Entry) → IsSound s → IsLawful s e → IsSound (next s e)
unfolding IsLawful next
entry_sound s e p h = subst (λ o. IsSound (apply s (changes_in o))) (sym h.1) (sound_kept s h.0 e p (kind_of s h.0 e (polls_of e.what) e.actor (action_of e.what) h.1))
