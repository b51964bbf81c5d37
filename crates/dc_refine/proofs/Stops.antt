-- The entry of a stop follows.
use Rattle.std.proofs.Common.{◌≡◌, ℕ, ◌+◌, List, [], ◌∷◌, Bool, true, false, Some, None, refl, sym, ap, ◌∙◌, subst, map, length}
use Rattle.std.specs.Prelude.{slice_get, slice_set, filter, not, ◌==◌, ◌&&◌, if◌then◌else◌}
use Rattle.std.specs.Option.{option_map_or}
use Rattle.std.proofs.lemmas.List.{map-set}
use Rattle.dc_base.specs.declared.commands.ScriptLine.{ScriptLine}
use Rattle.dc_base.specs.declared.commands.Order.TheVariants as orders
use Rattle.dc_base.specs.declared.kernels.Version.{Version}
use Rattle.dc_base.specs.declared.entries.Entry.{Entry}
use Rattle.dc_base.specs.declared.entries.What.TheVariants as what
use Rattle.dc_base.specs.Boot.{after_order, after_order_at, none_on}
use Rattle.dc_base.specs.Blocks.{Blocks}
use Rattle.dc_base.specs.BlockSteps.{run_on}
use Rattle.dc_base.specs.States.{State, Core, Block, order, ack, Whereabouts, rest, on, core_in, time_of, time_at, time_on, clock_of}
use Rattle.dc_base.specs.Outcomes.{by_core}
use Rattle.dc_base.specs.Turns.{outcome}
use Rattle.dc_base.specs.Orders.{carry_out, block_at_rest}
use Rattle.dc_base.specs.StandsFor.{StandsFor}
use Rattle.dc_base.specs.StrikeOut.{clock_told, events_of, told_after}
use Rattle.dc_base.specs.Columns.{columns_agree}
use Rattle.dc_base.specs.Holders.{held_once, well_held}
use Rattle.dc_base.specs.Answers.{boot_after, answered_after, from_on}
use Rattle.dc_base.specs.Runs.{Terms, block_clock}
use Rattle.dc_base.specs.Sound.{IsSound}
use Rattle.dc_base.specs.Progress.{boot_of, booted_of}
use Rattle.dc_base.specs.Telling.{told_of, answered_of, holders_from, with_holder, times_of, clocks_of}
use Rattle.dc_refine.proofs.Turn.{map_set_same, held_once_from}
use Rattle.dc_refine.proofs.Beside.{time_alike}
use Rattle.dc_refine.proofs.ChangedBlocks.{on_core, on_core-is, where_on, applied-mapped}
use Rattle.dc_refine.proofs.Handled.{IsHandling, stands_handled, map_kept, booted_there, some_there}
use Rattle.dc_refine.proofs.ShareCount.{share-held}
use Rattle.dc_refine.proofs.Good.{Good}
use Rattle.dc_refine.proofs.Heads.{events_open, columns_open, held_open, told_open, answer_open}
use Rattle.dc_refine.proofs.Orders.{order_answers}
use Rattle.dc_refine.proofs.Quiet.{same_number}
use Rattle.dc_refine.proofs.Follow.{Gives}
use Rattle.dc_refine.proofs.Follow as follow

module _ (c clock : ℕ) where
  -- the blocks of core c are at rest
  core_left : (w : Whereabouts) (x : Block) → x.whereabouts ≡ w → core_in (if on_core c w then block_at_rest clock x else x).whereabouts ≡ none_on c (core_in w)
  core_left (rest kept) x e = ap core_in e
  core_left (on d z v) x e = by_test (d == c)
    where
      by_test : (t : Bool) → core_in (if t then block_at_rest clock x else x).whereabouts ≡ (if t then None else Some d)
      by_test true = refl
      by_test false = ap core_in e

  control_kept : (x : Block) (t : Bool) → (if t then block_at_rest clock x else x).control ≡ x.control
  control_kept x true = refl
  control_kept x false = refl

  holder_left : (n : ℕ) (w : Whereabouts) (x : Block) (ps : List (ℕ × ℕ)) → x.whereabouts ≡ w →
      filter (λ (p : ℕ × ℕ). not (p.1 == c)) (with_holder n w ps) ≡ with_holder n (if on_core c w then block_at_rest clock x else x).whereabouts (filter (λ (p : ℕ × ℕ). not (p.1 == c)) ps)
  holder_left n (rest kept) x ps e = ap (λ w. with_holder n w (filter (λ (p : ℕ × ℕ). not (p.1 == c)) ps)) (sym e)
  holder_left n (on d z v) x ps e = by_test (d == c)
    where
      by_test : (t : Bool) → (if not t then (n, d) ∷ filter (λ (p : ℕ × ℕ). not (p.1 == c)) ps else filter (λ (p : ℕ × ℕ). not (p.1 == c)) ps)
          ≡ with_holder n (if t then block_at_rest clock x else x).whereabouts (filter (λ (p : ℕ × ℕ). not (p.1 == c)) ps)
      by_test true = refl
      by_test false = ap (λ w. with_holder n w (filter (λ (p : ℕ × ℕ). not (p.1 == c)) ps)) (sym e)

  holders_left : (n : ℕ) (xs : List Block) → filter (λ (p : ℕ × ℕ). not (p.1 == c)) (holders_from n xs) ≡ holders_from n (map (where_on c (block_at_rest clock)) xs)
  holders_left n [] = refl
  holders_left n (x ∷ xs) = holder_left n x.whereabouts x (holders_from (n + 1) xs) refl ∙ ap (with_holder n (where_on c (block_at_rest clock) x).whereabouts) (holders_left (n + 1) xs)

module _ (terms : Terms) (lines : List ScriptLine) (s : State) (t : Blocks) (sound : IsSound s) (stands : StandsFor s t) (c : ℕ) (k : Core)
    (core_at : slice_get s.cores c ≡ Some k) (at : slice_get s.mailboxes c ≡ Some (order orders.Stop)) where
  abbrev new : Core
  new = record k { version = None; share = [] }

  abbrev handle : Block → Block
  handle = where_on c (block_at_rest k.clock)

  abbrev next : State
  next = record s { cores = slice_set s.cores c (record k { version = None; share = [] }); mailboxes = slice_set s.mailboxes c ack; blocks = map (where_on c (block_at_rest k.clock)) s.blocks }

  abbrev entry : Entry
  entry = by_core c (what.Stop (length k.share))

  clocks_kept : map (λ (k : Core). k.clock) (slice_set s.cores c new) ≡ map (λ (k : Core). k.clock) s.cores
  clocks_kept = map_set_same (λ (k : Core). k.clock) s.cores c k new core_at refl

  clock_is : clock_of s.cores c ≡ k.clock
  clock_is = ap (λ o. option_map_or (λ (k : Core). k.clock) o 0) core_at

  time_left : (w : Whereabouts) → on_core c w ≡ true → time_at k.clock w ≡ time_of s.cores w
  time_left (rest kept) h = refl
  time_left (on d z v) h = let f : d ≡ c = on_core-is c (on d z v) h in ap (λ n. time_on n z) (sym (ap (clock_of s.cores) f ∙ clock_is))

  time_kept : (x : Block) (f : Bool) → on_core c x.whereabouts ≡ f → time_of (slice_set s.cores c new) (if f then block_at_rest k.clock x else x).whereabouts ≡ time_of s.cores x.whereabouts
  time_kept x true e = time_left x.whereabouts e
  time_kept x false e = time_alike s.cores (slice_set s.cores c new) clocks_kept x.whereabouts

  handling : IsHandling s (slice_set s.cores c new) handle
  handling = record { control = λ x. control_kept c k.clock x (on_core c x.whereabouts); time = λ x. time_kept x (on_core c x.whereabouts) refl }

  was_on : (v : Version) × (k.version ≡ Some v)
  was_on = some_there k.version (sound.posts c orders.Stop k at core_at)

  places : map (none_on c) (map (λ (x : Block). core_in x.whereabouts) s.blocks) ≡ map (λ (x : Block). core_in x.whereabouts) (map handle s.blocks)
  places = through s.blocks ∙ sym (map_kept handle (λ (x : Block). core_in x.whereabouts) (λ (x : Block). none_on c (core_in x.whereabouts)) (λ x. core_left c k.clock x.whereabouts x refl) s.blocks)
    where
      through : (xs : List Block) → map (none_on c) (map (λ (x : Block). core_in x.whereabouts) xs) ≡ map (λ (x : Block). none_on c (core_in x.whereabouts)) xs
      through [] = refl
      through (x ∷ xs) = ap (λ l. none_on c (core_in x.whereabouts) ∷ l) (through xs)

  boot : boot_after (boot_of s) entry ≡ boot_of next
  unfolding boot_after after_order boot_of
  boot =
      ap (λ o. after_order_at (boot_of s) c o orders.Stop) (booted_there s c k was_on.0 core_at was_on.1)
      ∙ ap (λ l. record { cores = l; places = map (none_on c) (map (λ (x : Block). core_in x.whereabouts) s.blocks) }) (sym (map-set booted_of s.cores c new))
      ∙ ap (λ l. record { cores = map booted_of (slice_set s.cores c new); places = l }) places

  answer : answered_after lines (boot_of s) (clock_told (told_of s t)) (answered_of s) entry ≡ Some (answered_of next)
  unfolding answer_open
  answer = order_answers s c orders.Stop sound.mailboxes at

  told : told_after (told_of s t) entry ≡ told_of next t
  unfolding told_open events_open
  told =
      ap (λ l. record { clocks = l; times = times_of t; holders = filter (λ (p : ℕ × ℕ). not (p.1 == c)) (holders_from 0 s.blocks) }) (sym clocks_kept)
      ∙ ap (λ l. record { clocks = clocks_of next; times = times_of t; holders = l }) (holders_left c k.clock 0 s.blocks)

  held : well_held terms.clocks (told_of s t).holders (block_clock t) (clock_told (told_of s t)) entry ≡ true
  unfolding held_open
  held =
      ap (λ n. (length k.share == n) && held_once (filter (λ (p : ℕ × ℕ). not (p.1 == c)) (holders_from 0 s.blocks))) (sym (share-held s sound.placed c k (sound.shares c k core_at) core_at))
      ∙ ap (λ f. f && held_once (filter (λ (p : ℕ × ℕ). not (p.1 == c)) (holders_from 0 s.blocks))) (same_number (length k.share))
      ∙ ap held_once (holders_left c k.clock 0 s.blocks) ∙ held_once_from 0 (map handle s.blocks)

  no_events : run_on t (events_of (told_of s t) entry.actor entry.what) ≡ Some t
  unfolding events_open
  no_events = refl

  columns : columns_agree terms.quantum (told_of s t) t entry ≡ true
  unfolding columns_open
  columns = refl

  from_core : from_on (boot_of s) entry ≡ true
  unfolding from_on
  from_core = refl

  stop_follows : Gives terms lines s t entry next
  stop_follows = follow.follows_seen terms lines s t entry next t (record {
    stands = stands_handled s t (slice_set s.cores c new) (slice_set s.mailboxes c ack) handle handling stands;
    events = record { by = no_events };
    columns = columns;
    held = held;
    from = from_core;
    told = told;
    boot = boot;
    answer = answer;
    same_script = record { settings = refl; lines = refl };
  })

  -- a stop follows
  pub stop_good : Good terms lines s t (outcome s (carry_out c k orders.Stop))
  unfolding carry_out
  stop_good =
      subst (λ m. Gives terms lines s t (by_core c (what.Stop (length k.share))) m) (sym (applied-mapped s sound.placed c k core_at (block_at_rest k.clock) (record s { cores = slice_set s.cores c new; mailboxes = slice_set s.mailboxes c ack }) refl)) stop_follows
