-- The entry of an intake follows.
use Rattle.std.proofs.Common.{◌≡◌, ℕ, suc, ◌<◌, List, [], ◌∷◌, Bool, true, false, Option, Some, None, refl, sym, ap, ◌∙◌, subst, arith, length}
use Rattle.std.specs.Prelude.{slice_get, slice_set, ◌==◌, ◌&&◌, if◌then◌else◌, IfSome}
use Rattle.std.specs.Option.{option_map}
use Rattle.dc_base.specs.declared.commands.ScriptLine.{ScriptLine}
use Rattle.dc_base.specs.declared.kernels.Version.{Version}
use Rattle.dc_base.specs.declared.interrupts.Latch.{Latch}
use Rattle.dc_base.specs.declared.interrupts.Latched.{Latched}
use Rattle.dc_base.specs.declared.entries.Entry.{Entry}
use Rattle.dc_base.specs.declared.entries.Reason.TheVariants as reason
use Rattle.dc_base.specs.Words.{bind, is_number}
use Rattle.dc_base.specs.Ports.{latch_at, how_latched}
use Rattle.dc_base.specs.Lines.{Line, Wire, fate_after, pending_in, line_latch, wire_after_intake}
use Rattle.dc_base.specs.Blocks.{Blocks, intake}
use Rattle.dc_base.specs.Blocks as blocks
use Rattle.dc_base.specs.BlockSteps.{blocks_step, intake_in, after_intake, with_latch}
use Rattle.dc_base.specs.States.{State, Core, Block, with_control, time_of}
use Rattle.dc_base.specs.Firing.{latch_in}
use Rattle.dc_base.specs.Turns.{not_enabled, ends, look_block, look_line, outcome}
use Rattle.dc_base.specs.Outcomes.{has, if_on, if_here}
use Rattle.dc_base.specs.Intakes.{intake_entry, intake_outcome, intake_pending, intake_line, intake_turn}
use Rattle.dc_base.specs.StandsFor.{StandsFor}
use Rattle.dc_base.specs.StrikeOut.{clock_told, events_of, told_after}
use Rattle.dc_base.specs.Columns.{columns_agree}
use Rattle.dc_base.specs.CoreColumns.{intake_agrees, is_bound_to, latched_on}
use Rattle.dc_base.specs.Same.{is_same_latched}
use Rattle.dc_base.proofs.SameLaws.{is_same_latched-refl}
use Rattle.dc_base.specs.Holders.{well_held, held_once}
use Rattle.dc_base.specs.Answers.{boot_after, answered_after, from_on}
use Rattle.dc_base.specs.Runs.{Terms, block_clock}
use Rattle.dc_base.specs.Sound.{IsSound}
use Rattle.dc_base.specs.Progress.{boot_of}
use Rattle.dc_base.specs.Telling.{told_of, answered_of, holders_from, times_of, clocks_of}
use Rattle.dc_refine.proofs.Elements.{slice_set-same, same_at, there_too}
use Rattle.dc_refine.proofs.Leads.{Leads, leads_one, with_block}
use Rattle.dc_refine.proofs.Stands.{plain}
use Rattle.dc_refine.proofs.Slice.{SliceAt}
use Rattle.dc_refine.proofs.Steps.{slice_at-sound}
use Rattle.dc_refine.proofs.Turn.{place_of, map_set_same, holds_from, held_once_from, Turned, booted_at-on, boot_kept, holders_kept}
use Rattle.dc_refine.proofs.Fates.{pending_there}
use Rattle.dc_refine.proofs.IntakeLines.{IntakeAt, seen, latched_stands, joined_stands}
use Rattle.dc_refine.proofs.Good.{Good}
use Rattle.dc_refine.proofs.Heads.{events_open, columns_open, held_open, told_open, answer_open}
use Rattle.dc_refine.proofs.Quiet.{same_number}
use Rattle.dc_refine.proofs.Follow.{Gives}
use Rattle.dc_refine.proofs.Follow as follow

module _ (terms : Terms) (lines : List ScriptLine) (s : State) (t : Blocks) (c l b signal m : ℕ) (k : Core) (x : Block) (ws : List ℕ) (v : Version) (w : Wire) (old : Line)
    (at : SliceAt s t c b k x ws v) (here : IntakeAt s t l b signal m x ws w old) (bound : w.bound ≡ Some (b, signal)) where
  abbrev comes : Latched
  comes = how_latched (latch_at x.control.parts.signals signal)

  abbrev u : Blocks
  u = record (with_block t b (with_latch signal (line_latch l (suc m)) (plain (time_of s.cores x.whereabouts) ws x.control))) { lines = slice_set t.lines l (record old { fates = slice_set old.fates m (fate_after (how_latched (latch_at x.control.parts.signals signal))) }) }

  abbrev next : State
  next = record s { blocks = slice_set s.blocks b (with_control (latch_in signal (line_latch l (suc m)) x.control) x); lines = slice_set s.lines l (wire_after_intake (how_latched (latch_at x.control.parts.signals signal)) w) }

  abbrev entry : Entry
  entry = intake_entry c l (suc m) b signal x

  stands_by : (o : Option Latch) → latch_at x.control.parts.signals signal ≡ o →
      StandsFor (record s { blocks = slice_set s.blocks b (with_control (latch_in signal (line_latch l (suc m)) x.control) x); lines = slice_set s.lines l (wire_after_intake (how_latched o) w) })
      (record (with_block t b (with_latch signal (line_latch l (suc m)) (plain (time_of s.cores x.whereabouts) ws x.control))) { lines = slice_set t.lines l (record old { fates = slice_set old.fates m (fate_after (how_latched o)) }) })
  stands_by None e = latched_stands s t l b signal m x ws w old here e
  stands_by (Some j) e = joined_stands s t l b signal m x ws w old here j e

  bound_now : old.bound ≡ Some (b, signal)
  bound_now = sym (same_at (λ (w : Wire). w.bound) (λ (x : Line). x.bound) s.lines t.lines l w old here.stands.lines.bindings here.wire_at here.line_at) ∙ bound

  pending_now : pending_in old.fates ≡ Some (suc m)
  pending_now = sym (same_at (λ (w : Wire). w.pending) (λ (x : Line). pending_in x.fates) s.lines t.lines l w old here.stands.lines.pending here.wire_at here.line_at) ∙ here.is_pending_now

  block_there : slice_get t.blocks b ≡ Some (plain (time_of s.cores x.whereabouts) ws x.control)
  block_there = seen s t l b signal m x ws w old here

  leads_intake : Leads t (intake l ∷ []) u
  unfolding blocks_step intake_in
  leads_intake = leads_one t u (intake l)
      (ap (λ o. bind o (λ line. bind line.bound (λ to. bind (pending_in line.fates) (λ n. bind (slice_get t.blocks to.0) (λ x. Some (after_intake t l line n to.0 to.1 x)))))) here.line_at
      ∙ ap (λ o. bind o (λ (to : ℕ × ℕ). bind (pending_in old.fates) (λ n. bind (slice_get t.blocks to.0) (λ x. Some (after_intake t l old n to.0 to.1 x))))) bound_now
      ∙ ap (λ o. bind o (λ n. bind (slice_get t.blocks b) (λ x. Some (after_intake t l old n b signal x)))) pending_now
      ∙ ap (λ o. bind o (λ x. Some (after_intake t l old (suc m) b signal x))) block_there)

  turned : Turned s c k k next
  turned = record {
    there = at.core_at;
    cores = sym (slice_set-same s.cores c k at.core_at);
    places = map_set_same place_of s.blocks b x (with_control (latch_in signal (line_latch l (suc m)) x.control) x) at.block_at refl;
    script = refl;
    mailboxes = refl;
    version = refl;
    home = refl;
    parked = refl;
  }

  times_kept : times_of t ≡ times_of u
  times_kept = sym (map_set_same (λ (x : blocks.Block). x.clock) t.blocks b (plain (time_of s.cores x.whereabouts) ws x.control) (with_latch signal (line_latch l (suc m)) (plain (time_of s.cores x.whereabouts) ws x.control)) block_there refl)

  columns : columns_agree terms.quantum (told_of s t) t entry ≡ true
  unfolding columns_open
  columns =
      ap (intake_agrees t (record { number = suc m; block = b; signal = signal; how = comes })) here.line_at
      ∙ ap (λ o. is_number (suc m) o && (is_bound_to b signal old.bound && is_same_latched comes (latched_on (slice_get t.blocks b) signal))) pending_now
      ∙ ap (λ f. f && (is_bound_to b signal old.bound && is_same_latched comes (latched_on (slice_get t.blocks b) signal))) (same_number (suc m))
      ∙ ap (λ o. is_bound_to b signal o && is_same_latched comes (latched_on (slice_get t.blocks b) signal)) bound_now
      ∙ ap (λ f. (f && (signal == signal)) && is_same_latched comes (latched_on (slice_get t.blocks b) signal)) (same_number b)
      ∙ ap (λ f. f && is_same_latched comes (latched_on (slice_get t.blocks b) signal)) (same_number signal)
      ∙ ap (λ o. is_same_latched comes (latched_on o signal)) block_there
      ∙ is_same_latched-refl comes

  held_well : well_held terms.clocks (told_of s t).holders (block_clock t) (clock_told (told_of s t)) entry ≡ true
  unfolding held_open
  held_well = ap (λ v. v && held_once (holders_from 0 s.blocks)) (holds_from 0 s.blocks b c b x at.block_at at.on_core (omega arith)) ∙ held_once_from 0 s.blocks

  from_core : from_on (boot_of s) entry ≡ true
  unfolding from_on
  from_core = booted_at-on s c k v at.core_at at.is_on

  told : told_after (told_of s t) entry ≡ told_of next u
  unfolding told_open events_open
  told =
      ap (λ l. record { clocks = clocks_of s; times = l; holders = holders_from 0 s.blocks }) times_kept
      ∙ ap (λ l. record { clocks = clocks_of s; times = times_of u; holders = l }) (sym (holders_kept s c k k next turned))

  boot : boot_after (boot_of s) entry ≡ boot_of next
  unfolding boot_after
  boot = sym (boot_kept s c k k next turned)

  answer : answered_after lines (boot_of s) (clock_told (told_of s t)) (answered_of s) entry ≡ Some (answered_of next)
  unfolding answer_open
  answer = refl

  events : Leads t (events_of (told_of s t) entry.actor entry.what) u
  unfolding events_open
  events = leads_intake

  intake_follows : Gives terms lines s t entry next
  intake_follows = follow.follows_seen terms lines s t entry next u (record {
    stands = stands_by (latch_at x.control.parts.signals signal) refl;
    events = events;
    columns = columns;
    held = held_well;
    from = from_core;
    told = told;
    boot = boot;
    answer = answer;
    same_script = record { settings = refl; lines = refl };
  })

module _ (terms : Terms) (lines : List ScriptLine) (s : State) (t : Blocks) (sound : IsSound s) (stands : StandsFor s t) (c l : ℕ) (k : Core) (core_at : slice_get s.cores c ≡ Some k) (v : Version) (is_on : k.version ≡ Some v)
    (w : Wire) (wire_at : slice_get s.lines l ≡ Some w) where
  module _ (b signal : ℕ) (bound : w.bound ≡ Some (b, signal)) (n : ℕ) (is_pending : w.pending ≡ Some n) where
    -- the signal that the line is bound to exists
    named_by : (o : Option (ℕ × ℕ)) → IfSome o (λ (to : ℕ × ℕ). (x : Block) × (slice_get s.blocks to.0 ≡ Some x) × (to.1 < length x.control.parts.signals)) → o ≡ Some (b, signal) → (x : Block) × (slice_get s.blocks b ≡ Some x) × (signal < length x.control.parts.signals)
    named_by o h e = subst (λ o. IfSome o (λ (to : ℕ × ℕ). (x : Block) × (slice_get s.blocks to.0 ≡ Some x) × (to.1 < length x.control.parts.signals))) e h

    named : (x : Block) → slice_get s.blocks b ≡ Some x → signal < length x.control.parts.signals
    named x at =
        let r = named_by w.bound (sound.named.wires l w wire_at).bound bound in
        let same : r.0 ≡ x = let e = r.1 in cc in
        subst (λ (x : Block). signal < length x.control.parts.signals) same r.2

    line_there : (y : Line) × (slice_get t.lines l ≡ Some y)
    line_there = there_too (λ (w : Wire). w.bound) (λ (x : Line). x.bound) s.lines t.lines l w stands.lines.bindings wire_at

    pending_is : pending_in line_there.0.fates ≡ Some n
    pending_is = sym (same_at (λ (w : Wire). w.pending) (λ (x : Line). pending_in x.fates) s.lines t.lines l w line_there.0 stands.lines.pending wire_at line_there.1) ∙ is_pending

    taken_in : (x : Block) → slice_get s.blocks b ≡ Some x → has k.share b ≡ true → Good terms lines s t (intake_outcome c l w n b signal (Some x))
    taken_in x block_at listed =
        let slice = slice_at-sound s t sound stands c b k x v core_at block_at listed is_on in
        let fate = pending_there 1 line_there.0.fates n pending_is in
        let number : n ≡ suc fate.0 = omega (arith, fate.1) in
        let here : IntakeAt s t l b signal fate.0 x slice.0 w line_there.0 = record {
          stands = stands;
          counted = sound.counts;
          block_at = block_at;
          console_at = slice.1.console_at;
          wire_at = wire_at;
          line_at = line_there.1;
          is_pending_now = is_pending ∙ ap Some number;
          fate = fate.2;
          within = named x block_at;
        } in
        subst (λ n. Good terms lines s t (intake_outcome c l w n b signal (Some x))) (sym number)
        (intake_follows terms lines s t c l b signal fate.0 k x slice.0 v w line_there.0 slice.1 here bound)

    by_block : has k.share b ≡ true → (o : Option Block) → slice_get s.blocks b ≡ o → Good terms lines s t (intake_outcome c l w n b signal o)
    by_block listed None e = tt
    by_block listed (Some x) e = taken_in x e listed

    by_share : (h : Bool) → has k.share b ≡ h → Good terms lines s t (outcome s (if h then look_block b (λ o. ends (intake_outcome c l w n b signal o)) else ends (not_enabled (reason.NotHere (record { 0 = b })))))
    by_share true e = by_block e (slice_get s.blocks b) refl
    by_share false e = tt

    by_route : (h : Bool) → Good terms lines s t (outcome s (if h then if_here k.share b (look_block b (λ o. ends (intake_outcome c l w n b signal o))) else ends (not_enabled (reason.NotRouted (option_map (λ r. record { 0 = r }) w.route)))))
    by_route true = by_share (has k.share b) refl
    by_route false = tt

  by_parts : (o : Option (ℕ × ℕ)) → w.bound ≡ o → (p : Option ℕ) → w.pending ≡ p → Good terms lines s t (outcome s (intake_pending c k l w o p))
  by_parts None e p f = tt
  by_parts (Some to) e None f = tt
  by_parts (Some to) e (Some n) f = by_route to.0 to.1 e n f (is_number c w.route)

module _ (terms : Terms) (lines : List ScriptLine) (s : State) (t : Blocks) (sound : IsSound s) (stands : StandsFor s t) (c l : ℕ) (k : Core) (core_at : slice_get s.cores c ≡ Some k) where
  by_wire : (v : Version) → k.version ≡ Some v → (o : Option Wire) → slice_get s.lines l ≡ o → Good terms lines s t (outcome s (intake_line c k l o))
  by_wire v is_on None e = tt
  by_wire v is_on (Some w) e = by_parts terms lines s t sound stands c l k core_at v is_on w e w.bound refl w.pending refl

  by_version : (o : Option Version) → k.version ≡ o → Good terms lines s t (outcome s (if_on o (look_line l (intake_line c k l))))
  by_version None e = tt
  by_version (Some v) e = by_wire v e (slice_get s.lines l) refl

  -- whatever an intake does follows
  pub intake_good : Good terms lines s t (outcome s (intake_turn c k l))
  intake_good = by_version k.version refl
