-- The entry of a wake follows.
use Rattle.std.proofs.Common.{◌≡◌, ℕ, ◌+◌, List, Bool, true, false, Option, Some, None, refl, sym, ap, ◌∙◌, subst, map, arith}
use Rattle.std.specs.Prelude.{slice_get, slice_set, ◌==◌, ◌&&◌, nat_lt, if◌then◌else◌, length}
use Rattle.std.specs.Option.{option_map}
use Rattle.std.proofs.lemmas.Option.{slice_get-map}
use Rattle.dc_base.specs.declared.commands.ScriptLine.{ScriptLine}
use Rattle.dc_base.specs.declared.dispatchers.DispState.{DispState}
use Rattle.dc_base.specs.declared.dispatchers.DispState.TheVariants as disp
use Rattle.dc_base.specs.declared.instructions.Instr.{Instr}
use Rattle.dc_base.specs.declared.instructions.Instr.TheVariants.{Csend, Crecv}
use Rattle.dc_base.specs.declared.dispatchers.Wait.{Wait}
use Rattle.dc_base.specs.declared.dispatchers.Wait.TheVariants as wait
use Rattle.dc_base.specs.declared.kernels.Version.{Version}
use Rattle.dc_base.specs.declared.entries.Entry.{Entry}
use Rattle.dc_base.specs.declared.entries.What.TheVariants as what
use Rattle.dc_base.specs.declared.entries.Reason.TheVariants as reason
use Rattle.dc_base.specs.Words.{bind}
use Rattle.dc_base.specs.Instructions.{decode}
use Rattle.dc_base.specs.Channels.{Ring}
use Rattle.dc_base.specs.Blocks.{Blocks, live}
use Rattle.dc_base.specs.Blocks as blocks
use Rattle.dc_base.specs.States.{State, Core, Block, with_control, time_of}
use Rattle.dc_base.specs.Shown.{life_of}
use Rattle.dc_base.specs.StandsFor.{StandsFor}
use Rattle.dc_base.specs.StrikeOut.{clock_told, events_of, told_after}
use Rattle.dc_base.specs.Holders.{well_held, held_once}
use Rattle.dc_base.specs.Answers.{boot_after, answered_after, from_on}
use Rattle.dc_base.specs.Runs.{Terms, block_clock}
use Rattle.dc_base.specs.Sound.{IsSound}
use Rattle.dc_base.specs.Effects.{Context, act, effect, effect_of}
use Rattle.dc_base.specs.Outcomes.{by_core, if_here, if_on, has}
use Rattle.dc_base.specs.Wakes.{after_wake, ready_again, wake_sender, wake_receiver, wake_waiting, wake_in, wake_turn}
use Rattle.dc_base.specs.Turns.{not_enabled, spent, ends, look_block, outcome}
use Rattle.dc_base.specs.BlockSteps.{run_on}
use Rattle.dc_base.specs.Columns.{columns_agree}
use Rattle.dc_base.specs.CoreColumns.{at_channel}
use Rattle.dc_base.specs.SliceColumns.{move_there}
use Rattle.dc_base.specs.Progress.{boot_of}
use Rattle.dc_base.specs.Named.{is_channel_call, waits_on_channel, instr_of}
use Rattle.dc_base.specs.Telling.{told_of, answered_of, holders_from, times_of, clocks_of}
use Rattle.dc_refine.proofs.Leads.{with_block, IsAt}
use Rattle.dc_refine.proofs.Elements.{slice_set-same}
use Rattle.dc_refine.proofs.Ends.{move_there-is}
use Rattle.dc_refine.proofs.Stands.{plain, block_seen, set_alone, same_signals}
use Rattle.dc_refine.proofs.Slice.{SliceAt}
use Rattle.dc_refine.proofs.Turn.{place_of, map_set_same, holds_from, held_once_from, Turned, booted_at-on, boot_kept, answered_kept, holders_kept}
use Rattle.dc_refine.proofs.Good.{Good}
use Rattle.dc_refine.proofs.Beside.{stands_cores}
use Rattle.dc_refine.proofs.Heads.{events_open, columns_open, held_open, told_open, answer_open}
use Rattle.dc_refine.proofs.Steps.{slice_at-sound}
use Rattle.dc_refine.proofs.Follow.{Gives}
use Rattle.dc_refine.proofs.Follow as follow

-- a csend or a crecv is a call on a channel
instr_moves : (time : ℕ) (c : Context) (memory : List ℕ) (o : Option Instr) → is_channel_call o ≡ true → at_channel (Some (effect_of time c memory o)) ≡ true
unfolding effect
instr_moves time c memory None h = cc
instr_moves time c memory (Some (Csend a b imm)) h = refl
instr_moves time c memory (Some (Crecv a b imm)) h = refl
instr_moves time c memory (Some i) h = cc

word_moves : (time : ℕ) (code : List ℕ) (c : Context) (memory : List ℕ) (o : Option ℕ) → slice_get code c.place ≡ o → is_channel_call (bind o decode) ≡ true → at_channel (Some (act time code c memory)) ≡ true
unfolding act
word_moves time code c memory None e h = cc
word_moves time code c memory (Some w) e h = rw e (instr_moves time c memory (decode w) h)

module _ (terms : Terms) (lines : List ScriptLine) (s : State) (t : Blocks) (c b d : ℕ) (k : Core) (x : Block) (ws : List ℕ) (v : Version) (here : SliceAt s t c b k x ws v)
    (w : Wait) (waits : slice_get x.control.states d ≡ Some (disp.Waits w)) (stands_there : is_channel_call (instr_of x.control.parts d) ≡ true) where
  abbrev new : Core
  new = record k { used = k.used + 1 }

  abbrev next : State
  next = record s { cores = slice_set s.cores c (record k { used = k.used + 1 }); blocks = slice_set s.blocks b (with_control (ready_again d x.control) x) }

  abbrev entry : Entry
  entry = by_core c (what.Wake (record { 0 = b }) (record { 0 = d }))

  lives_kept : map life_of (slice_set x.control.states d disp.Ready) ≡ map life_of x.control.states
  lives_kept = map_set_same life_of x.control.states d (disp.Waits w) disp.Ready waits refl

  seen : slice_get t.blocks b ≡ Some (plain (time_of s.cores x.whereabouts) ws x.control)
  seen = block_seen s t here.stands b x ws here.block_at here.console_at

  same_blocks : with_block t b (plain (time_of s.cores x.whereabouts) ws (ready_again d x.control)) ≡ t
  same_blocks =
      ap (λ l. with_block t b (record { parts = x.control.parts; lives = l; clock = time_of s.cores x.whereabouts; output = ws })) lives_kept
      ∙ ap (λ l. record t { blocks = l }) (slice_set-same t.blocks b (plain (time_of s.cores x.whereabouts) ws x.control) seen)

  clocks_kept : map (λ (k : Core). k.clock) (slice_set s.cores c new) ≡ map (λ (k : Core). k.clock) s.cores
  clocks_kept = map_set_same (λ (k : Core). k.clock) s.cores c k new here.core_at refl

  stands_next : StandsFor next t
  stands_next = stands_cores (record s { blocks = slice_set s.blocks b (with_control (ready_again d x.control) x) }) t (slice_set s.cores c new) clocks_kept
      (subst (λ u. StandsFor (record s { blocks = slice_set s.blocks b (with_control (ready_again d x.control) x) }) u) same_blocks
      (set_alone s t here.stands b x ws here.block_at here.console_at (ready_again d x.control) (same_signals x.control.parts x.control.parts refl)))

  turned : Turned s c k new next
  turned = record { there = here.core_at; cores = refl; places = map_set_same place_of s.blocks b x (with_control (ready_again d x.control) x) here.block_at refl; script = refl; mailboxes = refl; version = refl; home = refl; parked = refl }

  move_by : (oc : Option (List ℕ)) (ox : Option Context) → slice_get x.control.parts.code d ≡ oc → slice_get x.control.parts.contexts d ≡ ox →
      is_channel_call (bind oc (λ code. bind ox (λ (c : Context). bind (slice_get code c.place) decode))) ≡ true → at_channel (move_there t b d) ≡ true
  move_by None ox ec ex h = cc
  move_by (Some code) None ec ex h = cc
  move_by (Some code) (Some ctx) ec ex h =
      let y : blocks.Block = plain (time_of s.cores x.whereabouts) ws x.control in
      let at : IsAt y d code ctx = record { life = slice_get-map life_of x.control.states d ∙ ap (option_map life_of) waits; code_at = ec; context_at = ex } in
      ap at_channel (move_there-is t b d y code ctx seen at) ∙ word_moves y.clock code ctx x.control.parts.memory (slice_get code ctx.place) refl h

  columns : columns_agree terms.quantum (told_of s t) t entry ≡ true
  unfolding columns_open
  columns = move_by (slice_get x.control.parts.code d) (slice_get x.control.parts.contexts d) refl refl stands_there

  held_well : well_held terms.clocks (told_of s t).holders (block_clock t) (clock_told (told_of s t)) entry ≡ true
  unfolding held_open
  held_well = ap (λ v. v && held_once (holders_from 0 s.blocks)) (holds_from 0 s.blocks b c b x here.block_at here.on_core (omega arith)) ∙ held_once_from 0 s.blocks

  from_core : from_on (boot_of s) entry ≡ true
  unfolding from_on
  from_core = booted_at-on s c k v here.core_at here.is_on

  told : told_after (told_of s t) entry ≡ told_of next t
  unfolding told_open events_open
  told =
      ap (λ l. record { clocks = l; times = times_of t; holders = holders_from 0 s.blocks }) (sym clocks_kept)
      ∙ ap (λ l. record { clocks = clocks_of next; times = times_of t; holders = l }) (sym (holders_kept s c k new next turned))

  boot : boot_after (boot_of s) entry ≡ boot_of next
  unfolding boot_after
  boot = sym (boot_kept s c k new next turned)

  answer : answered_after lines (boot_of s) (clock_told (told_of s t)) (answered_of s) entry ≡ Some (answered_of next)
  unfolding answer_open
  answer = ap Some (sym (answered_kept s c k new next turned))

  no_events : run_on t (events_of (told_of s t) entry.actor entry.what) ≡ Some t
  unfolding events_open
  no_events = refl

  pub wake_follows : Gives terms lines s t entry next
  wake_follows = follow.follows_seen terms lines s t entry next t (record {
    stands = stands_next;
    events = record { by = no_events };
    columns = columns;
    held = held_well;
    from = from_core;
    told = told;
    boot = boot;
    answer = answer;
    same_script = record { settings = refl; lines = refl };
  })

module _ (terms : Terms) (lines : List ScriptLine) (s : State) (t : Blocks) (sound : IsSound s) (stands : StandsFor s t) (c b d : ℕ) (k : Core) (core_at : slice_get s.cores c ≡ Some k) where
  module _ (x : Block) (block_at : slice_get s.blocks b ≡ Some x) (listed : has k.share b ≡ true) (v : Version) (is_on : k.version ≡ Some v) where
    stood : (state : DispState) → slice_get x.control.states d ≡ Some state → waits_on_channel state ≡ true → is_channel_call (instr_of x.control.parts d) ≡ true
    stood state at h = sound.waiters b x block_at d state at h

    followed : (w : Wait) → slice_get x.control.states d ≡ Some (disp.Waits w) → waits_on_channel (disp.Waits w) ≡ true → Good terms lines s t (after_wake c k b d x)
    followed w at h =
        let here = slice_at-sound s t sound stands c b k x v core_at block_at listed is_on in
        wake_follows terms lines s t c b d k x here.0 v here.1 w at (stood (disp.Waits w) at h)

    by_full : (w : Wait) → slice_get x.control.states d ≡ Some (disp.Waits w) → waits_on_channel (disp.Waits w) ≡ true → (o : Option Ring) → Good terms lines s t (wake_sender c k b d x o)
    by_full w at h None = tt
    by_full w at h (Some r) = by_room (nat_lt (length r.untaken) r.capacity)
      where
        by_room : (f : Bool) → Good terms lines s t (if (if f then false else true) then not_enabled reason.StillWaits else after_wake c k b d x)
        by_room true = followed w at h
        by_room false = tt

    by_empty : (w : Wait) → slice_get x.control.states d ≡ Some (disp.Waits w) → waits_on_channel (disp.Waits w) ≡ true → (o : Option Ring) → Good terms lines s t (wake_receiver c k b d x o)
    by_empty w at h None = tt
    by_empty w at h (Some r) = by_some (nat_lt 0 (length r.untaken))
      where
        by_some : (f : Bool) → Good terms lines s t (if f then after_wake c k b d x else not_enabled reason.StillWaits)
        by_some true = followed w at h
        by_some false = tt

    by_state : (o : Option DispState) → slice_get x.control.states d ≡ o → Good terms lines s t (outcome s (wake_waiting c k b d x o))
    by_state None e = tt
    by_state (Some disp.Ready) e = tt
    by_state (Some disp.Halted) e = tt
    by_state (Some (disp.Trapped n)) e = tt
    by_state (Some (disp.Waits (wait.Send p))) e = tt
    by_state (Some (disp.Waits (wait.Recv p))) e = tt
    by_state (Some (disp.Waits (wait.Signal i))) e = tt
    by_state (Some (disp.Waits (wait.Csend y))) e = by_full (wait.Csend y) e refl (slice_get s.channels y.0)
    by_state (Some (disp.Waits (wait.Crecv y))) e = by_empty (wait.Crecv y) e refl (slice_get s.channels y.0)

  by_block : (v : Version) → k.version ≡ Some v → has k.share b ≡ true → (o : Option Block) → slice_get s.blocks b ≡ o → Good terms lines s t (outcome s (wake_in c k b d o))
  by_block v is_on listed None e = tt
  by_block v is_on listed (Some x) e = by_state x e listed v is_on (slice_get x.control.states d) refl

  by_share : (v : Version) → k.version ≡ Some v → (h : Bool) → has k.share b ≡ h → Good terms lines s t (outcome s (if h then look_block b (wake_in c k b d) else ends (not_enabled (reason.NotHere (record { 0 = b })))))
  by_share v is_on true e = by_block v is_on e (slice_get s.blocks b) refl
  by_share v is_on false e = tt

  by_version : (o : Option Version) → k.version ≡ o → Good terms lines s t (outcome s (if_on o (if_here k.share b (look_block b (wake_in c k b d)))))
  by_version None e = tt
  by_version (Some v) e = by_share v e (has k.share b) refl

  by_budget : (f : Bool) → Good terms lines s t (outcome s (if f then ends spent else if_on k.version (if_here k.share b (look_block b (wake_in c k b d)))))
  by_budget true = tt
  by_budget false = by_version k.version refl

  -- whatever a wake does follows
  pub wake_good : Good terms lines s t (outcome s (wake_turn c k b d))
  wake_good = by_budget (k.used == k.settings.slices)
