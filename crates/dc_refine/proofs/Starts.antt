-- The entry of a start follows.
use Rattle.std.proofs.Common.{◌≡◌, ℕ, List, [], true, Some, None, refl, sym, ap, ◌∙◌, map}
use Rattle.std.specs.Prelude.{slice_get, slice_set, ◌==◌, if◌then◌else◌}
use Rattle.std.specs.Option.{option_map}
use Rattle.std.proofs.lemmas.List.{map-set}
use Rattle.std.proofs.lemmas.Option.{slice_get-map}
use Rattle.dc_base.specs.declared.commands.ScriptLine.{ScriptLine}
use Rattle.dc_base.specs.declared.commands.Order.TheVariants as orders
use Rattle.dc_base.specs.declared.kernels.Version.{Version}
use Rattle.dc_base.specs.declared.entries.Entry.{Entry}
use Rattle.dc_base.specs.declared.entries.What.TheVariants as what
use Rattle.dc_base.specs.Words.{bind}
use Rattle.dc_base.specs.Boot.{booted_at, after_order, after_order_at}
use Rattle.dc_base.specs.Blocks.{Blocks}
use Rattle.dc_base.specs.BlockSteps.{run_on}
use Rattle.dc_base.specs.States.{State, Core, Block, order, ack, core_in}
use Rattle.dc_base.specs.Outcomes.{by_core}
use Rattle.dc_base.specs.Turns.{outcome}
use Rattle.dc_base.specs.Orders.{carry_out}
use Rattle.dc_base.specs.StandsFor.{StandsFor}
use Rattle.dc_base.specs.StrikeOut.{clock_told, events_of, told_after}
use Rattle.dc_base.specs.Columns.{columns_agree}
use Rattle.dc_base.specs.Holders.{well_held}
use Rattle.dc_base.specs.Answers.{boot_after, answered_after, from_on, order_answer}
use Rattle.dc_base.specs.Runs.{Terms, block_clock}
use Rattle.dc_base.specs.Sound.{IsSound}
use Rattle.dc_base.specs.Progress.{boot_of, booted_of, home_block, parked_blocks}
use Rattle.dc_base.specs.Telling.{told_of, answered_of, holders_from, times_of}
use Rattle.dc_refine.proofs.Turn.{map_set_same, held_once_from}
use Rattle.dc_refine.proofs.Beside.{stands_cores, stands_beside, same_wires}
use Rattle.dc_refine.proofs.Good.{Good}
use Rattle.dc_refine.proofs.Heads.{events_open, columns_open, held_open, told_open, answer_open}
use Rattle.dc_refine.proofs.Orders.{order_answers, clock_was}
use Rattle.dc_refine.proofs.Quiet.{same_number}
use Rattle.dc_refine.proofs.Follow.{Gives}
use Rattle.dc_refine.proofs.Follow as follow

module _ (terms : Terms) (lines : List ScriptLine) (s : State) (t : Blocks) (sound : IsSound s) (stands : StandsFor s t) (c : ℕ) (k : Core) (v : Version)
    (core_at : slice_get s.cores c ≡ Some k) (at : slice_get s.mailboxes c ≡ Some (order (orders.Start v))) where
  abbrev new : Core
  new = record k { version = Some v }

  abbrev next : State
  next = record s { cores = slice_set s.cores c (record k { version = Some v }); mailboxes = slice_set s.mailboxes c ack }

  abbrev entry : Entry
  entry = by_core c (what.Start v k.clock)

  clocks_kept : map (λ (k : Core). k.clock) (slice_set s.cores c new) ≡ map (λ (k : Core). k.clock) s.cores
  clocks_kept = map_set_same (λ (k : Core). k.clock) s.cores c k new core_at refl

  was_off : k.version ≡ None
  was_off = sound.posts c (orders.Start v) k at core_at

  none_listed : k.share ≡ []
  none_listed = (sound.shares c k core_at).off was_off

  -- the core was off in the boot state
  booted_was : booted_at (boot_of s) c ≡ None
  unfolding boot_of
  booted_was =
      ap (λ o. bind o (λ p. p)) (slice_get-map booted_of s.cores c ∙ ap (option_map booted_of) core_at)
      ∙ ap (option_map (λ v. record { version = v; home = home_block k.share; parked = parked_blocks k.share })) was_off

  boot : boot_after (boot_of s) entry ≡ boot_of next
  unfolding boot_after after_order boot_of
  boot =
      ap (λ o. after_order_at (boot_of s) c o (orders.Start v)) booted_was
      ∙ ap (λ l. record { cores = slice_set (map booted_of s.cores) c (Some (record { version = v; home = home_block l; parked = parked_blocks l })); places = map (λ (x : Block). core_in x.whereabouts) s.blocks }) (sym none_listed)
      ∙ ap (λ l. record { cores = l; places = map (λ (x : Block). core_in x.whereabouts) s.blocks }) (sym (map-set booted_of s.cores c new))

  answer : answered_after lines (boot_of s) (clock_told (told_of s t)) (answered_of s) entry ≡ Some (answered_of next)
  unfolding answer_open
  answer =
      ap (λ n. if k.clock == n then order_answer (answered_of s) c (Some (orders.Start v)) else None) (clock_was s t c k core_at)
      ∙ ap (λ f. if f then order_answer (answered_of s) c (Some (orders.Start v)) else None) (same_number k.clock)
      ∙ order_answers s c (orders.Start v) sound.mailboxes at

  told : told_after (told_of s t) entry ≡ told_of next t
  unfolding told_open events_open
  told = ap (λ l. record { clocks = l; times = times_of t; holders = holders_from 0 s.blocks }) (sym clocks_kept)

  held : well_held terms.clocks (told_of s t).holders (block_clock t) (clock_told (told_of s t)) entry ≡ true
  unfolding held_open
  held = held_once_from 0 s.blocks

  no_events : run_on t (events_of (told_of s t) entry.actor entry.what) ≡ Some t
  unfolding events_open
  no_events = refl

  columns : columns_agree terms.quantum (told_of s t) t entry ≡ true
  unfolding columns_open
  columns = refl

  from_core : from_on (boot_of s) entry ≡ true
  unfolding from_on
  from_core = refl

  start_follows : Gives terms lines s t entry next
  start_follows = follow.follows_seen terms lines s t entry next t (record {
    stands = stands_cores (record s { mailboxes = slice_set s.mailboxes c ack }) t (slice_set s.cores c new) clocks_kept (stands_beside s t s.script (slice_set s.mailboxes c ack) s.lines (same_wires s.lines) stands);
    events = record { by = no_events };
    columns = columns;
    held = held;
    from = from_core;
    told = told;
    boot = boot;
    answer = answer;
    same_script = record { settings = refl; lines = refl };
  })

  -- a start follows
  pub start_good : Good terms lines s t (outcome s (carry_out c k (orders.Start v)))
  unfolding carry_out
  start_good = start_follows
