-- A schedule that is played without its text goes on by an action.
use Rattle.std.proofs.Common.{◌≡◌, ◌≤◌, ℕ, ◌+◌, List, Some, None, refl, sym, ap, ◌∙◌, subst, arith, Bool, true, false}
use Rattle.std.specs.Prelude.{slice_get, if◌then◌else◌}
use Rattle.dc_base.specs.declared.actions.Actor.{Actor}
use Rattle.dc_base.specs.declared.actions.Action.{Action}
use Rattle.dc_base.specs.Changes.{apply}
use Rattle.dc_base.specs.Cores.{core_step}
use Rattle.dc_base.specs.States.{State}
use Rattle.dc_base.specs.TextWords.{ended}
use Rattle.dc_base.specs.EntryText.{entry_text}
use Rattle.dc_base.specs.Turns.{Outcome, did, not_enabled, spent}
use Rattle.dc_ranges.proofs.RunEntries.{KeepsSound}
use Rattle.dc_bodies.specs.declared.stops.Stepped.{Stepped}
use Rattle.dc_machine.specs.Answers.{Answers, is_did, polls_then}
use Rattle.dc_play.specs.declared.counting.Counts.{Counts}
use Rattle.dc_play.specs.Counting.{IsCounting}
use Rattle.dc_play.specs.Playing.{IsPlaying}
use Rattle.dc_play.proofs.Actions.{sized_after}
use Rattle.dc_play.proofs.Playing.{makes, is_not_enabled, is_spent, adds_untold}

abbrev pub entries_then : Stepped → ℕ → ℕ
entries_then r n = if is_did r then n + 1 else n

abbrev pub skipped_then : Stepped → ℕ → ℕ
skipped_then r n = if is_did r then n else n + 1

module _ (keeps : KeepsSound) (start : State) (schedule : List (Actor × Action)) (i : ℕ) (state : State) (polls entries skipped : ℕ) (p : IsCounting start schedule i state polls entries skipped)
    (a : Actor × Action) (there : slice_get schedule i ≡ Some a) (r : Stepped) (new : State) (polls_new : ℕ) (few : polls_new ≤ 1000000000) where
  counted_by : (o : Outcome) → core_step state polls a.0 a.1 ≡ o → Answers r state new o → polls_new ≡ polls_then a.1 polls o → IsCounting start schedule (i + 1) new polls_new (entries_then r entries) (skipped_then r skipped)
  counted_by (did changes e) h q k = subst (λ (x : Stepped). IsCounting start schedule (i + 1) new polls_new (entries_then x entries) (skipped_then x skipped)) (sym q.0)
      (subst (λ (s : State). IsCounting start schedule (i + 1) s polls_new (entries + 1) skipped) (sym q.1) (record {
        playing = subst (λ (n : ℕ). IsPlaying start schedule (i + 1) None None (apply state changes) n (entries + 1) skipped) (sym k)
            (makes start schedule i None None state polls entries skipped p.playing a there changes e None h (adds_untold (ended (entry_text entries e))));
        sound = keeps state polls a.0 a.1 changes e p.sound h;
        sized = sized_after start.script.settings state changes p.sized p.sound (keeps state polls a.0 a.1 changes e p.sound h);
        polls_few = few;
        entries_few = let b = p.entries_few in omega (arith, b);
        skipped_few = let b = p.skipped_few in omega (arith, b);
      }))
  counted_by (not_enabled why) h q k = subst (λ (x : Stepped). IsCounting start schedule (i + 1) new polls_new (entries_then x entries) (skipped_then x skipped)) (sym q.0)
      (subst (λ (s : State). IsCounting start schedule (i + 1) s polls_new entries (skipped + 1)) (sym q.1) (record {
        playing = subst (λ (n : ℕ). IsPlaying start schedule (i + 1) None None state n entries (skipped + 1)) (sym k) (is_not_enabled start schedule i None None state polls entries skipped p.playing a there why h);
        sound = p.sound;
        sized = p.sized;
        polls_few = few;
        entries_few = let b = p.entries_few in omega (arith, b);
        skipped_few = let b = p.skipped_few in omega (arith, b);
      }))
  counted_by spent h q k = subst (λ (x : Stepped). IsCounting start schedule (i + 1) new polls_new (entries_then x entries) (skipped_then x skipped)) (sym q.0)
      (subst (λ (s : State). IsCounting start schedule (i + 1) s polls_new entries (skipped + 1)) (sym q.1) (record {
        playing = subst (λ (n : ℕ). IsPlaying start schedule (i + 1) None None state n entries (skipped + 1)) (sym k) (is_spent start schedule i None None state polls entries skipped p.playing a there h);
        sound = p.sound;
        sized = p.sized;
        polls_few = few;
        entries_few = let b = p.entries_few in omega (arith, b);
        skipped_few = let b = p.skipped_few in omega (arith, b);
      }))

  -- one action more was made and counted
  pub counted : Answers r state new (core_step state polls a.0 a.1) → polls_new ≡ polls_then a.1 polls (core_step state polls a.0 a.1) → IsCounting start schedule (i + 1) new polls_new (entries_then r entries) (skipped_then r skipped)
  counted q k = counted_by (core_step state polls a.0 a.1) refl q k

entries_by : (t : Bool) (n : Counts) → (if t then n.entries + 1 else n.entries) ≡ (if t then record n { entries = n.entries + 1 } else record n { skipped = n.skipped + 1 }).entries
entries_by true n = refl
entries_by false n = refl

skipped_by : (t : Bool) (n : Counts) → (if t then n.skipped else n.skipped + 1) ≡ (if t then record n { entries = n.entries + 1 } else record n { skipped = n.skipped + 1 }).skipped
skipped_by true n = refl
skipped_by false n = refl

pub entries_is : (r : Stepped) (n m : Counts) → m ≡ (if is_did r then record n { entries = n.entries + 1 } else record n { skipped = n.skipped + 1 }) → entries_then r n.entries ≡ m.entries
entries_is r n m e = entries_by (is_did r) n ∙ sym (ap (λ (k : Counts). k.entries) e)

pub skipped_is : (r : Stepped) (n m : Counts) → m ≡ (if is_did r then record n { entries = n.entries + 1 } else record n { skipped = n.skipped + 1 }) → skipped_then r n.skipped ≡ m.skipped
skipped_is r n m e = skipped_by (is_did r) n ∙ sym (ap (λ (k : Counts). k.skipped) e)
