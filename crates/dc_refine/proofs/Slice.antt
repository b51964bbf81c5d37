-- The entry of a slice follows.
use Rattle.std.proofs.Common.{◌≡◌, ℕ, ◌+◌, ◌-◌, ◌≤◌, List, ◌∷◌, ◌++◌, length, true, false, Some, refl, sym, ap, ◌∙◌, subst, map, arith, rules}
use Rattle.std.specs.Prelude.{slice_get, slice_set, replicate, nat_le, ◌==◌, ◌&&◌, not, is_some}
use Rattle.std.specs.Option.{option_map_or}
use Rattle.std.proofs.lemmas.List.{set-set}
use Rattle.std.proofs.lemmas.Bool.Decides.{nat_tests}
use Rattle.dc_base.specs.declared.commands.ScriptLine.{ScriptLine}
use Rattle.dc_base.specs.declared.dispatchers.DispState.TheVariants as disp
use Rattle.dc_base.specs.declared.kernels.Version.{Version}
use Rattle.dc_base.specs.declared.entries.Entry.{Entry}
use Rattle.dc_base.specs.Channels.{Channel}
use Rattle.dc_base.specs.Timers.{is_due}
use Rattle.dc_base.specs.Blocks.{Blocks, Event, fire, instr}
use Rattle.dc_base.specs.Blocks as blocks
use Rattle.dc_base.specs.ControlBlocks.{ControlBlock}
use Rattle.dc_base.specs.States.{State, Core, Block, Script, with_control, time_of}
use Rattle.dc_base.specs.Slices.{Sliced, Halfway, need_of, slice_end, after_ahead, with_ahead, without_ready}
use Rattle.dc_base.specs.Changes.{core_becomes, block_becomes, apply}
use Rattle.dc_base.specs.StandsFor.{StandsFor}
use Rattle.dc_base.specs.StrikeOut.{clock_told, times_after, events_of, advances, end_events, told_after}
use Rattle.dc_base.specs.Holders.{held_by, well_held, held_once}
use Rattle.dc_base.specs.Answers.{boot_after, answered_after, from_on}
use Rattle.dc_base.specs.Runs.{Terms, block_clock}
use Rattle.dc_base.specs.Effects.{Context, act}
use Rattle.dc_base.specs.BlockSteps.{run_on}
use Rattle.dc_base.specs.Ahead.{Ahead, AheadEnd, at_quantum, at_halt, at_trap, at_call, ahead}
use Rattle.dc_base.specs.Firing.{Fired, fire_all}
use Rattle.dc_base.specs.SliceTurns.{core_after_slice, slice_entry, slice_outcome}
use Rattle.dc_base.specs.NeededLooks.{outside_change}
use Rattle.dc_base.specs.Outcomes.{share_with_last, with_clock}
use Rattle.dc_base.specs.Columns.{columns_agree}
use Rattle.dc_base.specs.SliceColumns.{SliceColumns, slice_agrees, agrees_after, after_instrs, none_due, end_agrees, advance_of}
use Rattle.dc_base.specs.Progress.{boot_of}
use Rattle.dc_base.specs.Placed.{IsOn, homes_in}
use Rattle.dc_base.specs.KeptByBlocks.{HasReady}
use Rattle.dc_base.specs.Telling.{told_of, answered_of, holders_from, times_of, clocks_of}
use Rattle.dc_refine.proofs.Elements.{slice_get-set_same}
use Rattle.dc_refine.proofs.Leads.{Leads, leads_both, with_block}
use Rattle.dc_refine.proofs.Going.{leads_ahead, with_end, ahead_stops, StopsAt}
use Rattle.dc_refine.proofs.Stands.{plain, block_seen}
use Rattle.dc_refine.proofs.Fires.{leads_fires}
use Rattle.dc_refine.proofs.FireFacts.{FiredWell, fired_well, ready_from}
use Rattle.dc_refine.proofs.Clocks.{AllInTime}
use Rattle.dc_refine.proofs.Good.{Good}
use Rattle.dc_refine.proofs.Outside.{outside_at, with_outside, Apart, apart}
use Rattle.dc_refine.proofs.SliceEnds.{EndsIn, sliced_by, first_at, quantum_ends, halt_ends, trap_ends, call_ends}
use Rattle.dc_refine.proofs.Shares.{parked_with_last, home_with_last}
use Rattle.dc_refine.proofs.Turn.{place_of, map_set_same, holds_from, held_once_from, Turned, booted_at-on, boot_kept, answered_kept, holders_kept, clocks_after_turn, clock_was, times_turned, times_fires, times_instrs, times_end, GoesOnTo, clock_goes_on}
use Rattle.dc_refine.proofs.Heads.{events_open, columns_open, held_open, told_open, answer_open}
use Rattle.dc_refine.proofs.Follow.{Gives}
use Rattle.dc_refine.proofs.Follow as follow

same_number : (n : ℕ) → (n == n) ≡ true
same_number n = search rules

not_above : (n m : ℕ) → n ≤ m → nat_le n m ≡ true
not_above n m h = grind (arith, nat_tests)

-- what the whole state is to give for a slice
pub record SliceAt (s : State) (t : Blocks) (c b : ℕ) (k : Core) (x : Block) (ws : List ℕ) (v : Version) : Type 0 where
  pub stands : StandsFor s t
  pub core_at : slice_get s.cores c ≡ Some k
  pub block_at : slice_get s.blocks b ≡ Some x
  pub console_at : slice_get s.consoles b ≡ Some ws
  pub on_core : IsOn c x.whereabouts
  pub is_on : k.version ≡ Some v
  pub one_home : homes_in k.share ≤ 1
  pub ready : HasReady x.control
  pub in_time : AllInTime s.cores s.blocks
  pub rings : (z : ℕ) (ch : Channel) → slice_get t.channels z ≡ Some ch → ch.taken ≤ length ch.messages

module _ (terms : Terms) (lines : List ScriptLine) (s : State) (t : Blocks) (c b d : ℕ) (k : Core) (x : Block) (ws : List ℕ) (v w : Version) (here : SliceAt s t c b k x ws w) where
  abbrev time : ℕ
  time = time_of s.cores x.whereabouts

  abbrev fired : Fired
  fired = fire_all (time_of s.cores x.whereabouts) x.control

  well : FiredWell (time_of s.cores x.whereabouts) x.control (fire_all (time_of s.cores x.whereabouts) x.control)
  well = fired_well (time_of s.cores x.whereabouts) x.control (ready_from x.control here.ready)

  abbrev x0 : ControlBlock
  x0 = without_ready d (fire_all (time_of s.cores x.whereabouts) x.control).control

  abbrev y0 : blocks.Block
  y0 = plain (time_of s.cores x.whereabouts) ws (without_ready d (fire_all (time_of s.cores x.whereabouts) x.control).control)

  abbrev t0 : Blocks
  t0 = with_block t b (plain (time_of s.cores x.whereabouts) ws (without_ready d (fire_all (time_of s.cores x.whereabouts) x.control).control))

  seen : slice_get t.blocks b ≡ Some (plain (time_of s.cores x.whereabouts) ws x.control)
  seen = block_seen s t here.stands b x ws here.block_at here.console_at

  fires_lead : Leads t (replicate fired.count (fire b)) t0
  fires_lead = (leads_fires (time_of s.cores x.whereabouts) ws b x.control).within t seen

  there0 : slice_get t0.blocks b ≡ Some y0
  there0 = slice_get-set_same t.blocks b (plain (time_of s.cores x.whereabouts) ws x.control) y0 seen

  module _ (picked : slice_get x0.states d ≡ Some disp.Ready) (code : List ℕ) (code_at : slice_get x0.parts.code d ≡ Some code) (ctx : Context) (context_at : slice_get x0.parts.contexts d ≡ Some ctx) where
    abbrev q : ℕ
    q = k.settings.quantum

    abbrev a : Ahead
    a = ahead (time_of s.cores x.whereabouts) code k.settings.quantum ctx (without_ready d (fire_all (time_of s.cores x.whereabouts) x.control).control).parts.memory

    abbrev h : Halfway
    h = after_ahead (time_of s.cores x.whereabouts) x0 d a a.end

    abbrev sl : Sliced
    sl = slice_end c b v d h (outside_at s b (need_of h))

    abbrev Ends : AheadEnd → Type 0
    Ends e = EndsIn s t here.stands b d c k.settings.quantum v x ws here.block_at here.console_at x0 well.latches_kept code picked code_at ctx context_at
        (sliced_by s t here.stands b d c k.settings.quantum v x ws here.block_at here.console_at x0 well.latches_kept code picked code_at ctx context_at a e) (with_end (plain (time_of s.cores x.whereabouts) ws (with_ahead x0 d a)) d e) a.ran

    ends_by : (e : AheadEnd) → StopsAt k.settings.quantum a.ran (act (time_of s.cores x.whereabouts) code a.context a.memory) e → Ends e
    ends_by at_quantum h = quantum_ends s t here.stands b d c k.settings.quantum v x ws here.block_at here.console_at x0 well.latches_kept code picked code_at ctx context_at a h
    ends_by at_halt h = halt_ends s t here.stands b d c k.settings.quantum v x ws here.block_at here.console_at x0 well.latches_kept code picked code_at ctx context_at a h
    ends_by (at_trap n) h = trap_ends s t here.stands b d c k.settings.quantum v x ws here.block_at here.console_at x0 well.latches_kept code picked code_at ctx context_at a n h
    ends_by (at_call o i) h = call_ends s t here.stands b d c k.settings.quantum v x ws here.block_at here.console_at x0 well.latches_kept code picked code_at ctx context_at a o i h here.rings

    ends : Ends a.end
    ends = ends_by a.end (ahead_stops k.settings.quantum (time_of s.cores x.whereabouts) code ctx x0.parts.memory)

    abbrev z : blocks.Block
    z = with_end (plain (time_of s.cores x.whereabouts) ws (with_ahead x0 d a)) d a.end

    instrs_lead : Leads t0 (replicate a.ran (instr b d)) (with_block t b z)
    instrs_lead =
        subst (λ l. Leads t0 (replicate a.ran (instr b d)) (record t { blocks = l })) (set-set t.blocks b y0 z)
        ((leads_ahead k.settings.quantum b y0 d code ctx (first_at s t here.stands b d c k.settings.quantum v x ws here.block_at here.console_at x0 well.latches_kept code picked code_at ctx context_at)).within t0 there0)

    abbrev mid : State
    mid = with_outside b sl.need sl.outside (record s { blocks = slice_set s.blocks b (with_control sl.control x) })

    abbrev clock : ℕ
    clock = k.clock + sl.advance

    abbrev new : Core
    new = record (with_clock (k.clock + sl.advance) k) { share = share_with_last b k.share }

    abbrev next : State
    next = record (with_outside b sl.need sl.outside (record s { blocks = slice_set s.blocks b (with_control sl.control x) })) { cores = slice_set s.cores c new }

    apart_mid : Apart (record s { blocks = slice_set s.blocks b (with_control sl.control x) }) mid b sl.need sl.outside
    apart_mid = apart (record s { blocks = slice_set s.blocks b (with_control sl.control x) }) b sl.need sl.outside

    places : map place_of mid.blocks ≡ map place_of s.blocks
    places = ap (map place_of) apart_mid.blocks ∙ map_set_same place_of s.blocks b x (with_control sl.control x) here.block_at refl

    turned : Turned s c k new next
    turned = record {
      there = here.core_at;
      cores = refl;
      places = places;
      script = apart_mid.script;
      mailboxes = apart_mid.mailboxes;
      version = refl;
      home = home_with_last b k.share here.one_home;
      parked = parked_with_last b k.share;
    }

    on : GoesOnTo s mid c sl.advance new ends.last
    on = clock_goes_on s mid ends.last c sl.advance k new here.core_at refl ends.goes apart_mid.cores places ends.stands_last here.in_time

    abbrev held : List ℕ
    held = held_by c (holders_from 0 s.blocks)

    events : Leads t (replicate fired.count (fire b) ++ (replicate a.ran (instr b d) ++ (end_events b d sl.end ++ advances sl.advance held))) on.last
    events =
        leads_both t t0 on.last (replicate fired.count (fire b)) (replicate a.ran (instr b d) ++ (end_events b d sl.end ++ advances sl.advance held)) fires_lead
        (leads_both t0 (with_block t b z) on.last (replicate a.ran (instr b d)) (end_events b d sl.end ++ advances sl.advance held) instrs_lead
        (leads_both (with_block t b z) ends.last on.last (end_events b d sl.end) (advances sl.advance held) ends.leads on.leads))

    advance_is : (k.clock + sl.advance) - clock_told (told_of s t) c ≡ sl.advance
    advance_is = ap (λ n. (k.clock + sl.advance) - n) (clock_was s c k new next turned t) ∙ omega arith

    -- the events of the entry
    abbrev entry : Entry
    entry = slice_entry c b d fired.count sl (k.clock + sl.advance)

    events_are : events_of (told_of s t) entry.actor entry.what ≡ replicate fired.count (fire b) ++ (replicate a.ran (instr b d) ++ (end_events b d sl.end ++ advances sl.advance held))
    unfolding events_open
    events_are =
        ap (λ n. replicate fired.count (fire b) ++ (replicate n (instr b d) ++ (end_events b d sl.end ++ advances ((k.clock + sl.advance) - clock_told (told_of s t) c) held))) ends.ran
        ∙ ap (λ n. replicate fired.count (fire b) ++ (replicate a.ran (instr b d) ++ (end_events b d sl.end ++ advances n held))) advance_is

    none_due_there : none_due t0 b ≡ true
    none_due_there = ap (λ o. option_map_or (λ (x : blocks.Block). not (is_due x.clock x.parts.timers)) o false) there0 ∙ ap (λ o. not (is_some o)) well.none_left

    -- the columns that it shows
    abbrev shown : SliceColumns
    shown = record { block = b; dispatcher = d; fired = fired.count; ran = sl.ran; end = sl.end; clock = k.clock + sl.advance }

    columns : terms.quantum ≡ k.settings.quantum → columns_agree terms.quantum (told_of s t) t entry ≡ true
    unfolding columns_open
    columns same =
        let instrs : after_instrs (Some t0) b d sl.ran ≡ Some (with_block t b z) = ap (λ n. after_instrs (Some t0) b d n) ends.ran ∙ instrs_lead.by in
        let clock_ok : (k.clock + sl.advance == k.clock + advance_of sl.ran sl.end) ≡ true = ap (λ n. k.clock + sl.advance == k.clock + n) ends.moved ∙ same_number (k.clock + sl.advance) in
        ap (λ q. slice_agrees q (clock_told (told_of s t) c) shown t) same
        ∙ ap (λ n. slice_agrees k.settings.quantum n shown t) (clock_was s c k new next turned t)
        ∙ ap (λ o. agrees_after k.settings.quantum k.clock shown o (after_instrs o b d sl.ran)) fires_lead.by
        ∙ ap (λ o. agrees_after k.settings.quantum k.clock shown (Some t0) o) instrs
        ∙ ap (λ v. v && (none_due t0 b && (end_agrees k.settings.quantum shown (with_block t b z) sl.end && (k.clock + sl.advance == k.clock + advance_of sl.ran sl.end)))) (not_above sl.ran k.settings.quantum ends.within)
        ∙ ap (λ v. v && (end_agrees k.settings.quantum shown (with_block t b z) sl.end && (k.clock + sl.advance == k.clock + advance_of sl.ran sl.end))) none_due_there
        ∙ ap (λ v. v && (k.clock + sl.advance == k.clock + advance_of sl.ran sl.end)) (ends.agrees fired.count (k.clock + sl.advance))
        ∙ clock_ok

    held_well : well_held terms.clocks (told_of s t).holders (block_clock t) (clock_told (told_of s t)) entry ≡ true
    unfolding held_open
    held_well =
        ap (λ v. v && held_once (holders_from 0 s.blocks)) (holds_from 0 s.blocks b c b x here.block_at here.on_core (omega arith))
        ∙ held_once_from 0 s.blocks

    from_core : from_on (boot_of s) entry ≡ true
    unfolding from_on
    from_core = booted_at-on s c k w here.core_at here.is_on

    times_told : times_after (times_of t) (events_of (told_of s t) entry.actor entry.what) ≡ times_of on.last
    times_told =
        ap (times_after (times_of t)) events_are
        ∙ times_fires fired.count b (times_of t) (replicate a.ran (instr b d) ++ (end_events b d sl.end ++ advances sl.advance held))
        ∙ times_instrs a.ran b d (times_of t) (end_events b d sl.end ++ advances sl.advance held)
        ∙ times_end b d sl.end (times_of t) (advances sl.advance held)
        ∙ times_turned s c k new next turned t on.last sl.advance here.stands on.stands here.in_time refl

    told : told_after (told_of s t) entry ≡ told_of next on.last
    unfolding told_open
    told =
        ap (λ l. record { clocks = slice_set (clocks_of s) c (k.clock + sl.advance); times = l; holders = holders_from 0 s.blocks }) times_told
        ∙ ap (λ l. record { clocks = l; times = times_of on.last; holders = holders_from 0 s.blocks }) (sym (clocks_after_turn s c k new next turned))
        ∙ ap (λ l. record { clocks = clocks_of next; times = times_of on.last; holders = l }) (sym (holders_kept s c k new next turned))

    boot : boot_after (boot_of s) entry ≡ boot_of next
    unfolding boot_after
    boot = sym (boot_kept s c k new next turned)

    answer : answered_after lines (boot_of s) (clock_told (told_of s t)) (answered_of s) entry ≡ Some (answered_of next)
    unfolding answer_open
    answer = ap Some (sym (answered_kept s c k new next turned))

    slice_parts : terms.quantum ≡ k.settings.quantum → follow.Parts terms lines s t entry next on.last
    slice_parts same = record {
      stands = on.stands;
      events = record { by = ap (run_on t) events_are ∙ events.by };
      columns = columns same;
      held = held_well;
      from = from_core;
      told = told;
      boot = boot;
      answer = answer;
      same_script = record { settings = ap (λ (r : Script). r.settings) apart_mid.script; lines = ap (λ (r : Script). r.lines) apart_mid.script };
    }

    after_is : apply s (core_becomes c (core_after_slice k b (k.clock + sl.advance)) ∷ block_becomes b (with_control sl.control x) ∷ outside_change b sl.need sl.outside) ≡ next
    unfolding with_outside
    after_is = apart_mid.with_cores (slice_set s.cores c new)

    -- the slice follows
    pub slice_follows : terms.quantum ≡ k.settings.quantum → Good terms lines s t (slice_outcome c k b x d fired.count sl)
    slice_follows same = subst (Gives terms lines s t entry) (sym after_is) (follow.follows_seen terms lines s t entry next on.last (slice_parts same))
