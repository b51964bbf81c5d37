-- The entry of a release follows.
use Rattle.std.proofs.Common.{◌≡◌, ℕ, List, true, Option, Some, None, refl, sym, ap, ◌∙◌, subst, map, arith}
use Rattle.std.specs.Prelude.{slice_get, slice_set, ◌==◌, ◌&&◌}
use Rattle.std.specs.Option.{option_map}
use Rattle.std.proofs.lemmas.List.{map-set}
use Rattle.dc_base.specs.declared.commands.ScriptLine.{ScriptLine}
use Rattle.dc_base.specs.declared.commands.Order.TheVariants as orders
use Rattle.dc_base.specs.declared.numbers.BlockNo.{BlockNo}
use Rattle.dc_base.specs.declared.kernels.Version.{Version}
use Rattle.dc_base.specs.declared.entries.Entry.{Entry}
use Rattle.dc_base.specs.declared.entries.What.TheVariants as what
use Rattle.dc_base.specs.Words.{without}
use Rattle.dc_base.specs.Boot.{without_block, after_order, after_order_at}
use Rattle.dc_base.specs.Blocks.{Blocks}
use Rattle.dc_base.specs.BlockSteps.{run_on}
use Rattle.dc_base.specs.States.{State, Core, Block, order, ack, rest, core_in, time_of, time_at}
use Rattle.dc_base.specs.Outcomes.{by_core, share_without}
use Rattle.dc_base.specs.Turns.{outcome}
use Rattle.dc_base.specs.Orders.{carry_out, block_at_rest, release_outcome}
use Rattle.dc_base.specs.StandsFor.{StandsFor}
use Rattle.dc_base.specs.StrikeOut.{clock_told, events_of, told_after}
use Rattle.dc_base.specs.Columns.{columns_agree}
use Rattle.dc_base.specs.Holders.{without_pair, held_once, well_held}
use Rattle.dc_base.specs.Answers.{boot_after, answered_after, from_on}
use Rattle.dc_base.specs.Runs.{Terms, block_clock}
use Rattle.dc_base.specs.Sound.{IsSound}
use Rattle.dc_base.specs.Placed.{IsOn}
use Rattle.dc_base.specs.Progress.{boot_of, booted_of, home_block, parked_blocks}
use Rattle.dc_base.specs.Telling.{told_of, answered_of, holders_from, times_of, clocks_of}
use Rattle.dc_refine.proofs.Turn.{map_set_same, holds_from, held_once_from}
use Rattle.dc_refine.proofs.Handled.{booted, booted_there, some_there}
use Rattle.dc_refine.proofs.Handovers.{y, time_here, clock_seen, stands_moved, same_block}
use Rattle.dc_refine.proofs.HolderLists.{holders_released}
use Rattle.dc_refine.proofs.ShareChanges.{home_without, parked_without}
use Rattle.dc_refine.proofs.Good.{Good}
use Rattle.dc_refine.proofs.Heads.{events_open, columns_open, held_open, told_open, answer_open}
use Rattle.dc_refine.proofs.Orders.{order_answers}
use Rattle.dc_refine.proofs.Quiet.{same_number}
use Rattle.dc_refine.proofs.Follow as follow

module _ (terms : Terms) (lines : List ScriptLine) (s : State) (t : Blocks) (sound : IsSound s) (stands : StandsFor s t) (c : ℕ) (k : Core) (b : BlockNo)
    (core_at : slice_get s.cores c ≡ Some k) (at : slice_get s.mailboxes c ≡ Some (order (orders.Release b))) (x : Block) (block_at : slice_get s.blocks b.0 ≡ Some x) where
  abbrev new : Core
  new = record k { share = share_without b.0 k.share }

  abbrev next : State
  next = record s { cores = slice_set s.cores c (record k { share = share_without b.0 k.share }); mailboxes = slice_set s.mailboxes c ack; blocks = slice_set s.blocks b.0 (block_at_rest k.clock x) }

  abbrev entry : Entry
  entry = by_core c (what.Release (record { 0 = b.0 }) (time_at k.clock x.whereabouts))

  clocks_kept : map (λ (k : Core). k.clock) (slice_set s.cores c new) ≡ map (λ (k : Core). k.clock) s.cores
  clocks_kept = map_set_same (λ (k : Core). k.clock) s.cores c k new core_at refl

  was_on : (v : Version) × (k.version ≡ Some v)
  was_on = some_there k.version (sound.posts c (orders.Release b) k at core_at).0

  on_core : IsOn c x.whereabouts
  on_core =
      let found = sound.placed.only c k core_at b.0 (sound.posts c (orders.Release b) k at core_at).1 in
      let same : found.0 ≡ x = let e = found.1 in cc in
      subst (λ (x : Block). IsOn c x.whereabouts) same found.2

  time_is : time_at k.clock x.whereabouts ≡ time_of s.cores x.whereabouts
  time_is = time_here s c k x.whereabouts core_at on_core

  stands_next : StandsFor next t
  stands_next =
      subst (StandsFor next) (ap (λ n. record t { blocks = slice_set t.blocks b.0 (record (y s t sound stands b.0 x block_at) { clock = n }) }) time_is ∙ same_block s t sound stands b.0 x block_at)
      (stands_moved s t sound stands b.0 x block_at (rest (time_at k.clock x.whereabouts)) (slice_set s.cores c new) (slice_set s.mailboxes c ack) clocks_kept)

  booted_now : Some (without_block b.0 (booted was_on.0 k)) ≡ booted_of new
  booted_now =
      ap (λ h. Some (record { version = was_on.0; home = h; parked = without b.0 (parked_blocks k.share) })) (sym (home_without b.0 k.share (sound.shares c k core_at).home))
      ∙ ap (λ p. Some (record { version = was_on.0; home = home_block (share_without b.0 k.share); parked = p })) (sym (parked_without b.0 k.share))
      ∙ ap (option_map (λ v. record { version = v; home = home_block (share_without b.0 k.share); parked = parked_blocks (share_without b.0 k.share) })) (sym was_on.1)

  boot : boot_after (boot_of s) entry ≡ boot_of next
  unfolding boot_after after_order boot_of
  boot =
      ap (λ o. after_order_at (boot_of s) c o (orders.Release b)) (booted_there s c k was_on.0 core_at was_on.1)
      ∙ ap (λ o. record { cores = slice_set (map booted_of s.cores) c o; places = slice_set (map (λ (x : Block). core_in x.whereabouts) s.blocks) b.0 None }) booted_now
      ∙ ap (λ l. record { cores = l; places = slice_set (map (λ (x : Block). core_in x.whereabouts) s.blocks) b.0 None }) (sym (map-set booted_of s.cores c new))
      ∙ ap (λ l. record { cores = map booted_of (slice_set s.cores c new); places = l }) (sym (map-set (λ (x : Block). core_in x.whereabouts) s.blocks b.0 (block_at_rest k.clock x)))

  answer : answered_after lines (boot_of s) (clock_told (told_of s t)) (answered_of s) entry ≡ Some (answered_of next)
  unfolding answer_open
  answer = order_answers s c (orders.Release b) sound.mailboxes at

  holders : without_pair b.0 c (holders_from 0 s.blocks) ≡ holders_from 0 next.blocks
  holders = holders_released c 0 s.blocks b.0 b.0 x (block_at_rest k.clock x) block_at on_core tt (omega arith)

  told : told_after (told_of s t) entry ≡ told_of next t
  unfolding told_open events_open
  told =
      ap (λ l. record { clocks = l; times = times_of t; holders = without_pair b.0 c (holders_from 0 s.blocks) }) (sym clocks_kept)
      ∙ ap (λ l. record { clocks = clocks_of next; times = times_of t; holders = l }) holders

  held : well_held terms.clocks (told_of s t).holders (block_clock t) (clock_told (told_of s t)) entry ≡ true
  unfolding held_open
  held =
      ap (λ f. (f && (time_at k.clock x.whereabouts == block_clock t b.0)) && held_once (without_pair b.0 c (holders_from 0 s.blocks))) (holds_from 0 s.blocks b.0 c b.0 x block_at on_core (omega arith))
      ∙ ap (λ n. (time_at k.clock x.whereabouts == n) && held_once (without_pair b.0 c (holders_from 0 s.blocks))) (clock_seen s t sound stands b.0 x block_at ∙ sym time_is)
      ∙ ap (λ f. f && held_once (without_pair b.0 c (holders_from 0 s.blocks))) (same_number (time_at k.clock x.whereabouts))
      ∙ ap held_once holders ∙ held_once_from 0 next.blocks

  no_events : run_on t (events_of (told_of s t) entry.actor entry.what) ≡ Some t
  unfolding events_open
  no_events = refl

  columns : columns_agree terms.quantum (told_of s t) t entry ≡ true
  unfolding columns_open
  columns = refl

  from_core : from_on (boot_of s) entry ≡ true
  unfolding from_on
  from_core = refl

  release_follows : Good terms lines s t (release_outcome c k b.0 (Some x))
  release_follows = follow.follows_seen terms lines s t entry next t (record {
    stands = stands_next;
    events = record { by = no_events };
    columns = columns;
    held = held;
    from = from_core;
    told = told;
    boot = boot;
    answer = answer;
    same_script = record { settings = refl; lines = refl };
  })

module _ (terms : Terms) (lines : List ScriptLine) (s : State) (t : Blocks) (sound : IsSound s) (stands : StandsFor s t) (c : ℕ) (k : Core) (b : BlockNo)
    (core_at : slice_get s.cores c ≡ Some k) (at : slice_get s.mailboxes c ≡ Some (order (orders.Release b))) where
  by_block : (o : Option Block) → slice_get s.blocks b.0 ≡ o → Good terms lines s t (release_outcome c k b.0 o)
  by_block None e = tt
  by_block (Some x) e = release_follows terms lines s t sound stands c k b core_at at x e

  -- a release follows
  pub release_good : Good terms lines s t (outcome s (carry_out c k (orders.Release b)))
  unfolding carry_out
  release_good = by_block (slice_get s.blocks b.0) refl
