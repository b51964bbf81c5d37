-- The entry of a replacement follows.
use Rattle.std.proofs.Common.{◌≡◌, ℕ, ◌+◌, List, [], ◌∷◌, Bool, true, false, Some, refl, sym, ap, ◌∙◌, subst, map}
use Rattle.std.specs.Prelude.{slice_get, slice_set, if◌then◌else◌}
use Rattle.std.proofs.lemmas.List.{map-set}
use Rattle.dc_base.specs.declared.commands.ScriptLine.{ScriptLine}
use Rattle.dc_base.specs.declared.commands.Order.TheVariants as orders
use Rattle.dc_base.specs.declared.kernels.Version.{Version}
use Rattle.dc_base.specs.declared.entries.Entry.{Entry}
use Rattle.dc_base.specs.declared.entries.What.TheVariants as what
use Rattle.dc_base.specs.Boot.{after_order, after_order_at}
use Rattle.dc_base.specs.Blocks.{Blocks}
use Rattle.dc_base.specs.BlockSteps.{run_on}
use Rattle.dc_base.specs.States.{State, Core, Block, order, ack, Whereabouts, rest, on, core_in, time_of}
use Rattle.dc_base.specs.Outcomes.{by_core}
use Rattle.dc_base.specs.Turns.{outcome}
use Rattle.dc_base.specs.Orders.{carry_out, under, block_under}
use Rattle.dc_base.specs.StandsFor.{StandsFor}
use Rattle.dc_base.specs.StrikeOut.{clock_told, events_of, told_after}
use Rattle.dc_base.specs.Columns.{columns_agree}
use Rattle.dc_base.specs.Holders.{well_held}
use Rattle.dc_base.specs.Answers.{boot_after, answered_after, from_on}
use Rattle.dc_base.specs.Runs.{Terms, block_clock}
use Rattle.dc_base.specs.Sound.{IsSound}
use Rattle.dc_base.specs.Progress.{boot_of, booted_of}
use Rattle.dc_base.specs.Telling.{told_of, answered_of, holders_from, with_holder, times_of, clocks_of}
use Rattle.dc_refine.proofs.Turn.{map_set_same, held_once_from}
use Rattle.dc_refine.proofs.Beside.{time_alike}
use Rattle.dc_refine.proofs.ChangedBlocks.{on_core, where_on, applied-mapped}
use Rattle.dc_refine.proofs.Handled.{IsHandling, stands_handled, map_kept, booted_there, some_there}
use Rattle.dc_refine.proofs.Good.{Good}
use Rattle.dc_refine.proofs.Heads.{events_open, columns_open, held_open, told_open, answer_open}
use Rattle.dc_refine.proofs.Orders.{order_answers}
use Rattle.dc_refine.proofs.Follow.{Gives}
use Rattle.dc_refine.proofs.Follow as follow

-- another kernel changes neither the core of a block nor its time
core_under : (v : Version) (w : Whereabouts) → core_in (under v w) ≡ core_in w
core_under v (rest kept) = refl
core_under v (on d z u) = refl

time_under : (cs : List Core) (v : Version) (w : Whereabouts) → time_of cs (under v w) ≡ time_of cs w
time_under cs v (rest kept) = refl
time_under cs v (on d z u) = refl

holder_under : (b : ℕ) (v : Version) (w : Whereabouts) (ps : List (ℕ × ℕ)) → with_holder b (under v w) ps ≡ with_holder b w ps
holder_under b v (rest kept) ps = refl
holder_under b v (on d z u) ps = refl

module _ (c : ℕ) (v : Version) where
  core_kept : (x : Block) (t : Bool) → core_in (if t then block_under v x else x).whereabouts ≡ core_in x.whereabouts
  core_kept x true = core_under v x.whereabouts
  core_kept x false = refl

  time_kept : (cs : List Core) (x : Block) (t : Bool) → time_of cs (if t then block_under v x else x).whereabouts ≡ time_of cs x.whereabouts
  time_kept cs x true = time_under cs v x.whereabouts
  time_kept cs x false = refl

  control_kept : (x : Block) (t : Bool) → (if t then block_under v x else x).control ≡ x.control
  control_kept x true = refl
  control_kept x false = refl

  holder_kept : (n : ℕ) (x : Block) (ps : List (ℕ × ℕ)) (t : Bool) → with_holder n (if t then block_under v x else x).whereabouts ps ≡ with_holder n x.whereabouts ps
  holder_kept n x ps true = holder_under n v x.whereabouts ps
  holder_kept n x ps false = refl

  holders_kept : (n : ℕ) (xs : List Block) → holders_from n (map (where_on c (block_under v)) xs) ≡ holders_from n xs
  holders_kept n [] = refl
  holders_kept n (x ∷ xs) = holder_kept n x (holders_from (n + 1) (map (where_on c (block_under v)) xs)) (on_core c x.whereabouts) ∙ ap (with_holder n x.whereabouts) (holders_kept (n + 1) xs)

module _ (terms : Terms) (lines : List ScriptLine) (s : State) (t : Blocks) (sound : IsSound s) (stands : StandsFor s t) (c : ℕ) (k : Core) (v : Version)
    (core_at : slice_get s.cores c ≡ Some k) (at : slice_get s.mailboxes c ≡ Some (order (orders.Replace v))) where
  abbrev new : Core
  new = record k { version = Some v }

  abbrev handle : Block → Block
  handle = where_on c (block_under v)

  abbrev next : State
  next = record s { cores = slice_set s.cores c (record k { version = Some v }); mailboxes = slice_set s.mailboxes c ack; blocks = map (where_on c (block_under v)) s.blocks }

  abbrev entry : Entry
  entry = by_core c (what.Replace v)

  clocks_kept : map (λ (k : Core). k.clock) (slice_set s.cores c new) ≡ map (λ (k : Core). k.clock) s.cores
  clocks_kept = map_set_same (λ (k : Core). k.clock) s.cores c k new core_at refl

  handling : IsHandling s (slice_set s.cores c new) handle
  handling = record {
    control = λ x. control_kept c v x (on_core c x.whereabouts);
    time = λ x. time_kept c v (slice_set s.cores c new) x (on_core c x.whereabouts) ∙ time_alike s.cores (slice_set s.cores c new) clocks_kept x.whereabouts;
  }

  was_on : (u : Version) × (k.version ≡ Some u)
  was_on = some_there k.version (sound.posts c (orders.Replace v) k at core_at)

  boot : boot_after (boot_of s) entry ≡ boot_of next
  unfolding boot_after after_order boot_of
  boot =
      ap (λ o. after_order_at (boot_of s) c o (orders.Replace v)) (booted_there s c k was_on.0 core_at was_on.1)
      ∙ ap (λ l. record { cores = l; places = map (λ (x : Block). core_in x.whereabouts) s.blocks }) (sym (map-set booted_of s.cores c new))
      ∙ ap (λ l. record { cores = map booted_of (slice_set s.cores c new); places = l })
      (sym (map_kept handle (λ (x : Block). core_in x.whereabouts) (λ (x : Block). core_in x.whereabouts) (λ x. core_kept c v x (on_core c x.whereabouts)) s.blocks))

  answer : answered_after lines (boot_of s) (clock_told (told_of s t)) (answered_of s) entry ≡ Some (answered_of next)
  unfolding answer_open
  answer = order_answers s c (orders.Replace v) sound.mailboxes at

  told : told_after (told_of s t) entry ≡ told_of next t
  unfolding told_open events_open
  told =
      ap (λ l. record { clocks = l; times = times_of t; holders = holders_from 0 s.blocks }) (sym clocks_kept)
      ∙ ap (λ l. record { clocks = clocks_of next; times = times_of t; holders = l }) (sym (holders_kept c v 0 s.blocks))

  held : well_held terms.clocks (told_of s t).holders (block_clock t) (clock_told (told_of s t)) entry ≡ true
  unfolding held_open
  held = held_once_from 0 s.blocks

  no_events : run_on t (events_of (told_of s t) entry.actor entry.what) ≡ Some t
  unfolding events_open
  no_events = refl

  columns : columns_agree terms.quantum (told_of s t) t entry ≡ true
  unfolding columns_open
  columns = refl

  from_core : from_on (boot_of s) entry ≡ true
  unfolding from_on
  from_core = refl

  replace_follows : Gives terms lines s t entry next
  replace_follows = follow.follows_seen terms lines s t entry next t (record {
    stands = stands_handled s t (slice_set s.cores c new) (slice_set s.mailboxes c ack) handle handling stands;
    events = record { by = no_events };
    columns = columns;
    held = held;
    from = from_core;
    told = told;
    boot = boot;
    answer = answer;
    same_script = record { settings = refl; lines = refl };
  })

  -- a replacement follows
  pub replace_good : Good terms lines s t (outcome s (carry_out c k (orders.Replace v)))
  unfolding carry_out
  replace_good =
      subst (Gives terms lines s t entry) (sym (applied-mapped s sound.placed c k core_at (block_under v) (record s { cores = slice_set s.cores c new; mailboxes = slice_set s.mailboxes c ack }) refl)) replace_follows
