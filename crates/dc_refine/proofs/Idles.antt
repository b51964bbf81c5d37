-- The entry of an idle core follows, and with it all that a step does.
use Rattle.std.proofs.Common.{◌≡◌, ℕ, ◌+◌, ◌-◌, ◌<◌, List, Bool, true, false, Option, Some, None, refl, sym, ap, ◌∙◌, subst, map, arith}
use Rattle.std.specs.Prelude.{slice_get, slice_set, find, ◌==◌, if◌then◌else◌}
use Rattle.std.specs.List.{flat_map}
use Rattle.std.proofs.lemmas.Option.{slice_get_within}
use Rattle.dc_base.specs.declared.commands.ScriptLine.{ScriptLine}
use Rattle.dc_base.specs.declared.kernels.Version.{Version}
use Rattle.dc_base.specs.declared.entries.Entry.{Entry}
use Rattle.dc_base.specs.declared.entries.What.TheVariants as what
use Rattle.dc_base.specs.Words.{least}
use Rattle.dc_base.specs.Blocks.{Blocks}
use Rattle.dc_base.specs.BlockSteps.{run_on}
use Rattle.dc_base.specs.States.{State, Core, Block}
use Rattle.dc_base.specs.Turns.{spent, Looked, ends, looked_at, look_blocks, outcome}
use Rattle.dc_base.specs.Outcomes.{by_core, share_blocks, if_on, with_clock}
use Rattle.dc_base.specs.SliceTurns.{slice_turn}
use Rattle.dc_base.specs.IdleTurns.{next_due, idle_outcome}
use Rattle.dc_base.specs.Steps.{is_runnable, step_on, step_turn}
use Rattle.dc_base.specs.StandsFor.{StandsFor}
use Rattle.dc_base.specs.StrikeOut.{clock_told, events_of, advances, times_after, told_after}
use Rattle.dc_base.specs.Columns.{columns_agree}
use Rattle.dc_base.specs.CoreColumns.{idle_agrees, waits_of}
use Rattle.dc_base.specs.Holders.{held_by, well_held}
use Rattle.dc_base.specs.Answers.{boot_after, answered_after, from_on}
use Rattle.dc_base.specs.Runs.{Terms, block_clock}
use Rattle.dc_base.specs.Sound.{IsSound}
use Rattle.dc_base.specs.Progress.{boot_of}
use Rattle.dc_base.specs.Telling.{IsOf, told_of, answered_of, holders_from, times_of, clocks_of}
use Rattle.dc_refine.proofs.Elements.{there_below}
use Rattle.dc_refine.proofs.Clocks.{AllInTime}
use Rattle.dc_refine.proofs.Turn.{held_once_from, Turned, booted_at-on, boot_kept, answered_kept, clocks_after_turn, clock_was, times_turned, GoesOnTo, clock_goes_on}
use Rattle.dc_refine.proofs.Good.{Good}
use Rattle.dc_refine.proofs.Heads.{events_open, columns_open, held_open, told_open, answer_open}
use Rattle.dc_refine.proofs.Members.{In, in_map, found-in}
use Rattle.dc_refine.proofs.Places.{in-has}
use Rattle.dc_refine.proofs.NextDues.{next_due-is}
use Rattle.dc_refine.proofs.Quiet.{same_number}
use Rattle.dc_refine.proofs.Steps.{in_time_at, slice_good}
use Rattle.dc_refine.proofs.Follow.{Gives}
use Rattle.dc_refine.proofs.Follow as follow

-- a core on which nothing can run goes on until the first timer is due
module _ (terms : Terms) (lines : List ScriptLine) (s : State) (t : Blocks) (stands : StandsFor s t) (in_time : AllInTime s.cores s.blocks) (c : ℕ) (k : Core) (v : Version)
    (core_at : slice_get s.cores c ≡ Some k) (is_on : k.version ≡ Some v) (n : ℕ) (some : 0 < n)
    (is_least : least (flat_map (λ b. waits_of (slice_get t.blocks b)) (held_by c (holders_from 0 s.blocks))) ≡ Some n) where
  abbrev new : Core
  new = with_clock (k.clock + n) k

  abbrev next : State
  next = record s { cores = slice_set s.cores c (with_clock (k.clock + n) k) }

  turned : Turned s c k new next
  turned = record { there = core_at; cores = refl; places = refl; script = refl; mailboxes = refl; version = refl; home = refl; parked = refl }

  goes_on : GoesOnTo s s c n new t
  goes_on = clock_goes_on s s t c n k new core_at refl some refl refl stands in_time

  abbrev held : List ℕ
  held = held_by c (holders_from 0 s.blocks)

  abbrev entry : Entry
  entry = by_core c (what.Idle (k.clock + n))

  advance_is : (k.clock + n) - clock_told (told_of s t) c ≡ n
  advance_is = ap (λ m. (k.clock + n) - m) (clock_was s c k new next turned t) ∙ omega arith

  events_are : events_of (told_of s t) entry.actor entry.what ≡ advances n held
  unfolding events_open
  events_are = ap (λ m. advances m held) advance_is

  columns : columns_agree terms.quantum (told_of s t) t entry ≡ true
  unfolding columns_open
  columns =
      ap (λ m. idle_agrees m (k.clock + n) (least (flat_map (λ b. waits_of (slice_get t.blocks b)) held))) (clock_was s c k new next turned t)
      ∙ ap (idle_agrees k.clock (k.clock + n)) is_least ∙ same_number (k.clock + n)

  held_well : well_held terms.clocks (told_of s t).holders (block_clock t) (clock_told (told_of s t)) entry ≡ true
  unfolding held_open
  held_well = held_once_from 0 s.blocks

  from_core : from_on (boot_of s) entry ≡ true
  unfolding from_on
  from_core = booted_at-on s c k v core_at is_on

  told : told_after (told_of s t) entry ≡ told_of next goes_on.last
  unfolding told_open
  told =
      ap (λ l. record { clocks = slice_set (clocks_of s) c (k.clock + n); times = l; holders = holders_from 0 s.blocks })
      (ap (times_after (times_of t)) events_are ∙ times_turned s c k new next turned t goes_on.last n stands goes_on.stands in_time refl)
      ∙ ap (λ l. record { clocks = l; times = times_of goes_on.last; holders = holders_from 0 s.blocks }) (sym (clocks_after_turn s c k new next turned))

  boot : boot_after (boot_of s) entry ≡ boot_of next
  unfolding boot_after
  boot = sym (boot_kept s c k new next turned)

  answer : answered_after lines (boot_of s) (clock_told (told_of s t)) (answered_of s) entry ≡ Some (answered_of next)
  unfolding answer_open
  answer = ap Some (sym (answered_kept s c k new next turned))

  idle_follows : Gives terms lines s t entry next
  idle_follows = follow.follows_seen terms lines s t entry next goes_on.last (record {
    stands = goes_on.stands;
    events = record { by = ap (run_on t) events_are ∙ goes_on.leads.by };
    columns = columns;
    held = held_well;
    from = from_core;
    told = told;
    boot = boot;
    answer = answer;
    same_script = record { settings = refl; lines = refl };
  })

module _ (terms : Terms) (lines : List ScriptLine) (s : State) (t : Blocks) (of : IsOf terms lines s) (sound : IsSound s) (stands : StandsFor s t) (c : ℕ) (k : Core) (core_at : slice_get s.cores c ≡ Some k) where
  in_time : AllInTime s.cores s.blocks
  in_time = λ i y at. in_time_at s y.whereabouts (sound.clocked.from_zero i y at)

  console_there : (b : ℕ) (x : Block) → slice_get s.blocks b ≡ Some x → (ws : List ℕ) × (slice_get s.consoles b ≡ Some ws)
  console_there b x at = there_below s.consoles b (subst (λ n. b < n) (sound.settled.blocks ∙ sym sound.settled.consoles) (slice_get_within s.blocks b x at))

  abbrev looked : List Looked
  looked = map (looked_at s.blocks) (share_blocks k.share)

  module _ (v : Version) (is_on : k.version ≡ Some v) where
    idle_by : find (is_runnable k.clock) looked ≡ None → (o : Option ℕ) → next_due looked ≡ o → Good terms lines s t (idle_outcome c k o)
    unfolding idle_outcome
    idle_by none None e = tt
    idle_by none (Some clock) e =
        let due = next_due-is s t sound.placed in_time stands console_there c k core_at none clock e in
        subst (λ m. Gives terms lines s t (by_core c (what.Idle m)) (record s { cores = slice_set s.cores c (with_clock m k) })) (sym due.is_after)
        (idle_follows terms lines s t stands in_time c k v core_at is_on due.wait due.some due.is_least)

    slice_by : (b : ℕ) → In b (share_blocks k.share) → (o : Option Block) → slice_get s.blocks b ≡ o → Good terms lines s t (outcome s (slice_turn c k b o))
    unfolding slice_turn
    slice_by b listed None e = tt
    slice_by b listed (Some x) e = slice_good terms lines s t of sound stands c k core_at v is_on b x e (in-has k.share b listed)

    found_by : (l : Looked) → In l looked → Good terms lines s t (outcome s (slice_turn c k l.number l.found))
    found_by l there =
        let b = in_map (looked_at s.blocks) (share_blocks k.share) l there in
        subst (λ (l : Looked). Good terms lines s t (outcome s (slice_turn c k l.number l.found))) (sym b.2) (slice_by b.0 b.1 (slice_get s.blocks b.0) refl)

    step_by : (o : Option Looked) → find (is_runnable k.clock) looked ≡ o → Good terms lines s t (outcome s (step_on c k looked o))
    step_by None e = idle_by e (next_due looked) refl
    step_by (Some l) e = found_by l (found-in (is_runnable k.clock) looked l e)

  by_version : (o : Option Version) → k.version ≡ o → Good terms lines s t (outcome s (if_on o (look_blocks (share_blocks k.share) (λ share. step_on c k share (find (is_runnable k.clock) share)))))
  by_version None e = tt
  by_version (Some v) e = step_by v e (find (is_runnable k.clock) looked) refl

  by_budget : (f : Bool) → Good terms lines s t (outcome s (if f then ends spent else if_on k.version (look_blocks (share_blocks k.share) (λ share. step_on c k share (find (is_runnable k.clock) share)))))
  by_budget true = tt
  by_budget false = by_version k.version refl

  -- whatever a step does follows
  pub step_good : Good terms lines s t (outcome s (step_turn c k))
  step_good = by_budget (k.used == k.settings.slices)
