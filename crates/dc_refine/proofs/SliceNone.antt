-- The entry of a slice without a dispatcher follows.
use Rattle.std.proofs.Common.{◌≡◌, ℕ, ◌+◌, ◌-◌, List, ◌++◌, true, false, Some, refl, sym, ap, ◌∙◌, map, arith, rules}
use Rattle.std.specs.Prelude.{slice_get, slice_set, replicate, ◌==◌, ◌&&◌, not, is_some}
use Rattle.std.specs.Option.{option_map_or}
use Rattle.dc_base.specs.declared.commands.ScriptLine.{ScriptLine}
use Rattle.dc_base.specs.declared.kernels.Version.{Version}
use Rattle.dc_base.specs.declared.entries.Entry.{Entry}
use Rattle.dc_base.specs.declared.entries.What.TheVariants as what
use Rattle.dc_base.specs.Timers.{is_due}
use Rattle.dc_base.specs.Blocks.{Blocks, Event, fire}
use Rattle.dc_base.specs.Blocks as blocks
use Rattle.dc_base.specs.States.{State, Core, Block, with_control, time_of}
use Rattle.dc_base.specs.StrikeOut.{clock_told, times_after, events_of, advances, told_after}
use Rattle.dc_base.specs.Holders.{held_by, well_held, held_once}
use Rattle.dc_base.specs.Answers.{boot_after, answered_after, from_on}
use Rattle.dc_base.specs.Runs.{Terms, block_clock}
use Rattle.dc_base.specs.BlockSteps.{run_on}
use Rattle.dc_base.specs.Firing.{Fired, fire_all}
use Rattle.dc_base.specs.SliceTurns.{empty_outcome}
use Rattle.dc_base.specs.Outcomes.{share_with_last, by_core, with_clock}
use Rattle.dc_base.specs.Columns.{columns_agree}
use Rattle.dc_base.specs.SliceColumns.{none_slice_agrees, after_fires, none_due}
use Rattle.dc_base.specs.Progress.{boot_of}
use Rattle.dc_base.specs.Telling.{told_of, answered_of, holders_from, times_of, clocks_of}
use Rattle.dc_refine.proofs.Good.{Good}
use Rattle.dc_refine.proofs.Elements.{slice_get-set_same}
use Rattle.dc_refine.proofs.Leads.{Leads, leads_both, with_block}
use Rattle.dc_refine.proofs.Stands.{plain, block_seen, set_alone}
use Rattle.dc_refine.proofs.Fires.{leads_fires}
use Rattle.dc_refine.proofs.FireFacts.{FiredWell, fired_well, ready_from}
use Rattle.dc_refine.proofs.Shares.{parked_with_last, home_with_last}
use Rattle.dc_refine.proofs.Slice.{SliceAt}
use Rattle.dc_refine.proofs.Turn.{place_of, map_set_same, holds_from, held_once_from, Turned, booted_at-on, boot_kept, answered_kept, holders_kept, clocks_after_turn, clock_was, times_turned, times_fires, GoesOnTo, clock_goes_on}
use Rattle.dc_refine.proofs.Heads.{events_open, columns_open, held_open, told_open, answer_open}
use Rattle.dc_refine.proofs.Follow as follow

same_number : (n : ℕ) → (n == n) ≡ true
same_number n = search rules

module _ (terms : Terms) (lines : List ScriptLine) (s : State) (t : Blocks) (c b : ℕ) (k : Core) (x : Block) (ws : List ℕ) (w : Version) (here : SliceAt s t c b k x ws w) where
  abbrev f : Fired
  f = fire_all (time_of s.cores x.whereabouts) x.control

  well : FiredWell (time_of s.cores x.whereabouts) x.control (fire_all (time_of s.cores x.whereabouts) x.control)
  well = fired_well (time_of s.cores x.whereabouts) x.control (ready_from x.control here.ready)

  abbrev y0 : blocks.Block
  y0 = plain (time_of s.cores x.whereabouts) ws (fire_all (time_of s.cores x.whereabouts) x.control).control

  abbrev t0 : Blocks
  t0 = with_block t b (plain (time_of s.cores x.whereabouts) ws (fire_all (time_of s.cores x.whereabouts) x.control).control)

  seen : slice_get t.blocks b ≡ Some (plain (time_of s.cores x.whereabouts) ws x.control)
  seen = block_seen s t here.stands b x ws here.block_at here.console_at

  fires_lead : Leads t (replicate f.count (fire b)) t0
  fires_lead = (leads_fires (time_of s.cores x.whereabouts) ws b x.control).within t seen

  there0 : slice_get t0.blocks b ≡ Some y0
  there0 = slice_get-set_same t.blocks b (plain (time_of s.cores x.whereabouts) ws x.control) y0 seen

  abbrev mid : State
  mid = record s { blocks = slice_set s.blocks b (with_control f.control x) }

  abbrev new : Core
  new = record (with_clock (k.clock + 1) k) { share = share_with_last b k.share }

  abbrev next : State
  next = record s { cores = slice_set s.cores c new; blocks = slice_set s.blocks b (with_control f.control x) }

  places : map place_of mid.blocks ≡ map place_of s.blocks
  places = map_set_same place_of s.blocks b x (with_control f.control x) here.block_at refl

  turned : Turned s c k new next
  turned = record { there = here.core_at; cores = refl; places = places; script = refl; mailboxes = refl; version = refl; home = home_with_last b k.share here.one_home; parked = parked_with_last b k.share }

  on : GoesOnTo s mid c 1 new t0
  on = clock_goes_on s mid t0 c 1 k new here.core_at refl (omega arith) refl places (set_alone s t here.stands b x ws here.block_at here.console_at f.control well.latches_kept) here.in_time

  abbrev held : List ℕ
  held = held_by c (holders_from 0 s.blocks)

  abbrev entry : Entry
  entry = by_core c (what.SliceNone (record { 0 = b }) f.count (k.clock + 1))

  advance_is : (k.clock + 1) - clock_told (told_of s t) c ≡ 1
  advance_is = ap (λ n. (k.clock + 1) - n) (clock_was s c k new next turned t) ∙ omega arith

  events_are : events_of (told_of s t) entry.actor entry.what ≡ replicate f.count (fire b) ++ advances 1 held
  unfolding events_open
  events_are = ap (λ n. replicate f.count (fire b) ++ advances n held) advance_is

  none_due_there : none_due t0 b ≡ true
  none_due_there = ap (λ o. option_map_or (λ (x : blocks.Block). not (is_due x.clock x.parts.timers)) o false) there0 ∙ ap (λ o. not (is_some o)) well.none_left

  columns : columns_agree terms.quantum (told_of s t) t entry ≡ true
  unfolding columns_open
  columns =
      ap (λ n. none_slice_agrees n b (k.clock + 1) (after_fires t b f.count)) (clock_was s c k new next turned t)
      ∙ ap (none_slice_agrees k.clock b (k.clock + 1)) fires_lead.by
      ∙ ap (λ v. v && (k.clock + 1 == k.clock + 1)) none_due_there ∙ same_number (k.clock + 1)

  held_well : well_held terms.clocks (told_of s t).holders (block_clock t) (clock_told (told_of s t)) entry ≡ true
  unfolding held_open
  held_well = ap (λ v. v && held_once (holders_from 0 s.blocks)) (holds_from 0 s.blocks b c b x here.block_at here.on_core (omega arith)) ∙ held_once_from 0 s.blocks

  from_core : from_on (boot_of s) entry ≡ true
  unfolding from_on
  from_core = booted_at-on s c k w here.core_at here.is_on

  times_told : times_after (times_of t) (events_of (told_of s t) entry.actor entry.what) ≡ times_of on.last
  times_told =
      ap (times_after (times_of t)) events_are
      ∙ times_fires f.count b (times_of t) (advances 1 held)
      ∙ times_turned s c k new next turned t on.last 1 here.stands on.stands here.in_time refl

  told : told_after (told_of s t) entry ≡ told_of next on.last
  unfolding told_open
  told =
      ap (λ l. record { clocks = slice_set (clocks_of s) c (k.clock + 1); times = l; holders = holders_from 0 s.blocks }) times_told
      ∙ ap (λ l. record { clocks = l; times = times_of on.last; holders = holders_from 0 s.blocks }) (sym (clocks_after_turn s c k new next turned))
      ∙ ap (λ l. record { clocks = clocks_of next; times = times_of on.last; holders = l }) (sym (holders_kept s c k new next turned))

  boot : boot_after (boot_of s) entry ≡ boot_of next
  unfolding boot_after
  boot = sym (boot_kept s c k new next turned)

  answer : answered_after lines (boot_of s) (clock_told (told_of s t)) (answered_of s) entry ≡ Some (answered_of next)
  unfolding answer_open
  answer = ap Some (sym (answered_kept s c k new next turned))

  pub slice_none_follows : Good terms lines s t (empty_outcome c k b x f)
  slice_none_follows = follow.follows_seen terms lines s t entry next on.last (record {
    stands = on.stands;
    events = record { by = ap (run_on t) events_are ∙ (leads_both t t0 on.last (replicate f.count (fire b)) (advances 1 held) fires_lead on.leads).by };
    columns = columns;
    held = held_well;
    from = from_core;
    told = told;
    boot = boot;
    answer = answer;
    same_script = record { settings = refl; lines = refl };
  })
