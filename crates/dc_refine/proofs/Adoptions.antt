-- The entry of an adoption follows.
use Rattle.std.proofs.Common.{◌≡◌, ℕ, ◌+◌, ◌-◌, ◌<◌, ◌≤◌, List, [], ◌∷◌, ◌++◌, Bool, true, false, Option, Some, None, refl, sym, ap, ◌∙◌, subst, map, arith, pos, ◌-ℤ◌}
use Rattle.std.specs.Prelude.{slice_get, slice_set, nat_lt, ◌==◌, ◌&&◌, if◌then◌else◌}
use Rattle.std.specs.Option.{option_map, option_map_or}
use Rattle.std.proofs.lemmas.List.{map-set}
use Rattle.std.proofs.lemmas.Option.{slice_get-map}
use Rattle.std.proofs.lemmas.Bool.Decides.{nat_tests}
use Rattle.dc_base.specs.declared.commands.ScriptLine.{ScriptLine}
use Rattle.dc_base.specs.declared.commands.Order.TheVariants as orders
use Rattle.dc_base.specs.declared.numbers.BlockNo.{BlockNo}
use Rattle.dc_base.specs.declared.kernels.Version.{Version}
use Rattle.dc_base.specs.declared.kernels.Clocks.{Clocks}
use Rattle.dc_base.specs.declared.kernels.Clocks.TheVariants as clocks
use Rattle.dc_base.specs.declared.entries.Entry.{Entry}
use Rattle.dc_base.specs.declared.entries.What.TheVariants as what
use Rattle.dc_base.specs.Boot.{Booted, after_order, after_order_at}
use Rattle.dc_base.specs.Boot as boots
use Rattle.dc_base.specs.Blocks.{Blocks, Event, advance}
use Rattle.dc_base.specs.Blocks as blocks
use Rattle.dc_base.specs.States.{State, Core, Block, Settings, order, ack, Whereabouts, core_in, time_of, time_at, time_on, place_on}
use Rattle.dc_base.specs.Outcomes.{by_core}
use Rattle.dc_base.specs.Turns.{outcome}
use Rattle.dc_base.specs.Orders.{carry_out, adopted_time, adopt_at, adopt_outcome}
use Rattle.dc_base.specs.StandsFor.{StandsFor}
use Rattle.dc_base.specs.StrikeOut.{clock_told, events_of, times_after, told_after}
use Rattle.dc_base.specs.Columns.{columns_agree}
use Rattle.dc_base.specs.Holders.{with_pair, held_once, adopted_at, well_held}
use Rattle.dc_base.specs.Answers.{boot_after, answered_after, from_on}
use Rattle.dc_base.specs.Runs.{Terms, block_clock}
use Rattle.dc_base.specs.Sound.{IsSound}
use Rattle.dc_base.specs.Progress.{HasRoom, Fits, IsRest, IsAtRest, boot_of, booted_of, home_block, parked_blocks}
use Rattle.dc_base.specs.Telling.{IsOf, told_of, answered_of, holders_from, times_of, clocks_of}
use Rattle.dc_refine.proofs.Elements.{slice_set-same, change-is_set}
use Rattle.dc_refine.proofs.Leads.{Leads, leads_none, with_block}
use Rattle.dc_refine.proofs.Clocks.{advance_there, later}
use Rattle.dc_refine.proofs.Turn.{map_set_same, held_once_from}
use Rattle.dc_refine.proofs.Handled.{booted, booted_there}
use Rattle.dc_refine.proofs.Handovers.{y, seen, time_at_rest, time_put, clock_seen, time_seen, stands_moved}
use Rattle.dc_refine.proofs.HolderLists.{holders_adopted, rest_free}
use Rattle.dc_refine.proofs.ShareChanges.{home_more, home_parked, parked_more}
use Rattle.dc_refine.proofs.Good.{Good}
use Rattle.dc_refine.proofs.Heads.{events_open, columns_open, held_open, told_open, answer_open}
use Rattle.dc_refine.proofs.Orders.{order_answers, clock_was}
use Rattle.dc_refine.proofs.Quiet.{same_number}
use Rattle.dc_refine.proofs.Follow as follow

-- a block is adopted at no earlier time than its own
adopted_later : (kind : Clocks) (time clock : ℕ) → time ≤ adopted_time kind time clock
adopted_later clocks.Kept time clock = omega arith
adopted_later clocks.Running time clock = omega arith

adopted_same : (kind : Clocks) (time clock : ℕ) → adopted_time kind time clock ≡ adopted_at kind time clock
adopted_same clocks.Kept time clock = refl
adopted_same clocks.Running time clock = refl

-- the core with one block more, in the boot state
booted_more : (k : Core) (v : Version) (b : ℕ) (parked : Bool) → HasRoom parked k → k.version ≡ Some v → Some (boots.with_block b parked (booted v k)) ≡ booted_of (record k { share = k.share ++ record { block = b; parked = parked } ∷ [] })
booted_more k v b false room is_on =
    ap (λ h. Some (record { version = v; home = h; parked = parked_blocks k.share })) (sym (home_more k.share b room))
    ∙ ap (λ p. Some (record { version = v; home = home_block (k.share ++ record { block = b; parked = false } ∷ []); parked = p })) (sym (parked_more k.share (record { block = b; parked = false })))
    ∙ ap (option_map (λ v. record { version = v; home = home_block (k.share ++ record { block = b; parked = false } ∷ []); parked = parked_blocks (k.share ++ record { block = b; parked = false } ∷ []) })) (sym is_on)
booted_more k v b true room is_on =
    ap (λ h. Some (record { version = v; home = h; parked = (boots.with_block b true (booted v k)).parked })) (sym (home_parked k.share (record { block = b; parked = true }) refl))
    ∙ ap (λ p. Some (record { version = v; home = home_block (k.share ++ record { block = b; parked = true } ∷ []); parked = p })) (sym (parked_more k.share (record { block = b; parked = true })))
    ∙ ap (option_map (λ v. record { version = v; home = home_block (k.share ++ record { block = b; parked = true } ∷ []); parked = parked_blocks (k.share ++ record { block = b; parked = true } ∷ []) })) (sym is_on)

module _ (terms : Terms) (lines : List ScriptLine) (s : State) (t : Blocks) (of : IsOf terms lines s) (sound : IsSound s) (stands : StandsFor s t) (c : ℕ) (k : Core) (b : BlockNo) (parked : Bool)
    (core_at : slice_get s.cores c ≡ Some k) (at : slice_get s.mailboxes c ≡ Some (order (orders.Adopt b parked))) (x : Block) (block_at : slice_get s.blocks b.0 ≡ Some x) (v : Version) (is_on : k.version ≡ Some v) where
  abbrev old : ℕ
  old = time_of s.cores x.whereabouts

  abbrev time : ℕ
  time = adopted_time k.settings.clocks (time_at k.clock x.whereabouts) k.clock

  abbrev place : Whereabouts
  place = place_on c k.clock (adopted_time k.settings.clocks (time_at k.clock x.whereabouts) k.clock) v

  abbrev new : Core
  new = record k { share = k.share ++ record { block = b.0; parked = parked } ∷ [] }

  abbrev next : State
  next = record s { cores = slice_set s.cores c (record k { share = k.share ++ record { block = b.0; parked = parked } ∷ [] }); mailboxes = slice_set s.mailboxes c ack; blocks = slice_set s.blocks b.0 (record x { whereabouts = place_on c k.clock (adopted_time k.settings.clocks (time_at k.clock x.whereabouts) k.clock) v }) }

  abbrev entry : Entry
  entry = by_core c (what.Adopt (record { 0 = b.0 }) parked time)

  abbrev z : blocks.Block
  z = y s t sound stands b.0 x block_at

  abbrev u : Blocks
  u = with_block t b.0 (record (y s t sound stands b.0 x block_at) { clock = adopted_time k.settings.clocks (time_at k.clock x.whereabouts) k.clock })

  fits : Fits s k (orders.Adopt b parked)
  fits = sound.posts c (orders.Adopt b parked) k at core_at

  at_rest : IsRest x.whereabouts
  at_rest = subst IsAtRest block_at fits.1

  was : time_at k.clock x.whereabouts ≡ old
  was = time_at_rest s k.clock x.whereabouts at_rest

  not_earlier : old ≤ time
  not_earlier = subst (λ n. n ≤ time) was (adopted_later k.settings.clocks (time_at k.clock x.whereabouts) k.clock)

  clocks_kept : map (λ (k : Core). k.clock) (slice_set s.cores c new) ≡ map (λ (k : Core). k.clock) s.cores
  clocks_kept = map_set_same (λ (k : Core). k.clock) s.cores c k new core_at refl

  put_time : time_of s.cores place ≡ time
  put_time = ap (λ n. time_on n (pos time -ℤ pos k.clock)) (ap (λ o. option_map_or (λ (k : Core). k.clock) o 0) core_at) ∙ time_put k.clock time

  stands_next : StandsFor next u
  stands_next =
      subst (λ n. StandsFor next (with_block t b.0 (record z { clock = n }))) put_time
      (stands_moved s t sound stands b.0 x block_at place (slice_set s.cores c new) (slice_set s.mailboxes c ack) clocks_kept)

  -- the block's clock goes on to the time
  moves_on : (f : Bool) → nat_lt old time ≡ f → Leads t (if f then advance b.0 (time - old) ∷ [] else []) u
  moves_on true e =
      let h : old < time = grind (arith, nat_tests, e) in
      let there = seen s t sound stands b.0 x block_at in
      let n : old + (time - old) ≡ time = omega arith in
      subst (Leads t (advance b.0 (time - old) ∷ []))
      (ap (λ l. record t { blocks = l }) (change-is_set (later (time - old)) t.blocks b.0 z there) ∙ ap (λ n. with_block t b.0 (record z { clock = n })) n)
      (advance_there t b.0 (time - old) z (omega arith) there)
  moves_on false e =
      let h : time ≤ old = grind (arith, nat_tests, e) in
      let g = not_earlier in
      let same : old ≡ time = omega arith in
      subst (Leads t []) (ap (λ l. record t { blocks = l }) (sym (slice_set-same t.blocks b.0 z (seen s t sound stands b.0 x block_at))) ∙ ap (λ n. with_block t b.0 (record z { clock = n })) same) (leads_none t)

  times_on : (f : Bool) → nat_lt old time ≡ f → times_after (times_of t) (if f then advance b.0 (time - old) ∷ [] else []) ≡ times_of u
  times_on true e =
      let h : old < time = grind (arith, nat_tests, e) in
      let n : old + (time - old) ≡ time = omega arith in
      change-is_set (λ m. m + (time - old)) (times_of t) b.0 old (slice_get-map (λ (x : blocks.Block). x.clock) t.blocks b.0 ∙ ap (option_map (λ (x : blocks.Block). x.clock)) (seen s t sound stands b.0 x block_at))
      ∙ ap (slice_set (times_of t) b.0) n
      ∙ sym (map-set (λ (x : blocks.Block). x.clock) t.blocks b.0 (record z { clock = time }))
  times_on false e =
      let h : time ≤ old = grind (arith, nat_tests, e) in
      let g = not_earlier in
      let same : time ≡ old = omega arith in
      sym (map_set_same (λ (x : blocks.Block). x.clock) t.blocks b.0 z (record z { clock = time }) (seen s t sound stands b.0 x block_at) same)

  events_are : events_of (told_of s t) entry.actor entry.what ≡ (if nat_lt old time then advance b.0 (time - old) ∷ [] else [])
  unfolding events_open
  events_are = ap (λ n. if nat_lt n time then advance b.0 (time - n) ∷ [] else []) (time_seen s t sound stands b.0 x block_at)

  events : Leads t (events_of (told_of s t) entry.actor entry.what) u
  events = subst (λ es. Leads t es u) (sym events_are) (moves_on (nat_lt old time) refl)

  boot : boot_after (boot_of s) entry ≡ boot_of next
  unfolding boot_after after_order boot_of
  boot =
      ap (λ o. after_order_at (boot_of s) c o (orders.Adopt b parked)) (booted_there s c k v core_at is_on)
      ∙ ap (λ o. record { cores = slice_set (map booted_of s.cores) c o; places = slice_set (map (λ (x : Block). core_in x.whereabouts) s.blocks) b.0 (Some c) }) (booted_more k v b.0 parked fits.2 is_on)
      ∙ ap (λ l. record { cores = l; places = slice_set (map (λ (x : Block). core_in x.whereabouts) s.blocks) b.0 (Some c) }) (sym (map-set booted_of s.cores c new))
      ∙ ap (λ l. record { cores = map booted_of (slice_set s.cores c new); places = l }) (sym (map-set (λ (x : Block). core_in x.whereabouts) s.blocks b.0 (record x { whereabouts = place })))

  answer : answered_after lines (boot_of s) (clock_told (told_of s t)) (answered_of s) entry ≡ Some (answered_of next)
  unfolding answer_open
  answer = order_answers s c (orders.Adopt b parked) sound.mailboxes at

  holders : with_pair b.0 c (holders_from 0 s.blocks) ≡ holders_from 0 next.blocks
  holders = holders_adopted c 0 s.blocks b.0 b.0 x (record x { whereabouts = place }) block_at at_rest refl (omega arith)

  told : told_after (told_of s t) entry ≡ told_of next u
  unfolding told_open
  told =
      ap (λ l. record { clocks = clocks_of s; times = l; holders = with_pair b.0 c (holders_from 0 s.blocks) }) (ap (times_after (times_of t)) events_are ∙ times_on (nat_lt old time) refl)
      ∙ ap (λ l. record { clocks = l; times = times_of u; holders = with_pair b.0 c (holders_from 0 s.blocks) }) (sym clocks_kept)
      ∙ ap (λ l. record { clocks = clocks_of next; times = times_of u; holders = l }) holders

  kind_is : terms.clocks ≡ k.settings.clocks
  kind_is = ap (λ (m : Terms). m.clocks) of.same_terms ∙ ap (λ (t : Settings). t.clocks) (sym (sound.settled.same c k core_at))

  time_is : adopted_at terms.clocks (block_clock t b.0) (clock_told (told_of s t) c) ≡ time
  time_is =
      ap (λ kind. adopted_at kind (block_clock t b.0) (clock_told (told_of s t) c)) kind_is
      ∙ ap (λ n. adopted_at k.settings.clocks n (clock_told (told_of s t) c)) (clock_seen s t sound stands b.0 x block_at ∙ sym was)
      ∙ ap (adopted_at k.settings.clocks (time_at k.clock x.whereabouts)) (clock_was s t c k core_at)
      ∙ sym (adopted_same k.settings.clocks (time_at k.clock x.whereabouts) k.clock)

  held : well_held terms.clocks (told_of s t).holders (block_clock t) (clock_told (told_of s t)) entry ≡ true
  unfolding held_open
  held =
      ap (λ f. (f && (time == adopted_at terms.clocks (block_clock t b.0) (clock_told (told_of s t) c))) && held_once (with_pair b.0 c (holders_from 0 s.blocks))) (rest_free 0 s.blocks b.0 b.0 x block_at at_rest (omega arith))
      ∙ ap (λ n. (time == n) && held_once (with_pair b.0 c (holders_from 0 s.blocks))) time_is
      ∙ ap (λ f. f && held_once (with_pair b.0 c (holders_from 0 s.blocks))) (same_number time)
      ∙ ap held_once holders ∙ held_once_from 0 next.blocks

  columns : columns_agree terms.quantum (told_of s t) t entry ≡ true
  unfolding columns_open
  columns = refl

  from_core : from_on (boot_of s) entry ≡ true
  unfolding from_on
  from_core = refl

  adopt_follows : Good terms lines s t (adopt_at c k b.0 parked x time v)
  adopt_follows = follow.follows_seen terms lines s t entry next u (record {
    stands = stands_next;
    events = events;
    columns = columns;
    held = held;
    from = from_core;
    told = told;
    boot = boot;
    answer = answer;
    same_script = record { settings = refl; lines = refl };
  })

module _ (terms : Terms) (lines : List ScriptLine) (s : State) (t : Blocks) (of : IsOf terms lines s) (sound : IsSound s) (stands : StandsFor s t) (c : ℕ) (k : Core) (b : BlockNo) (parked : Bool)
    (core_at : slice_get s.cores c ≡ Some k) (at : slice_get s.mailboxes c ≡ Some (order (orders.Adopt b parked))) where
  by_parts : (o : Option Version) → k.version ≡ o → (p : Option Block) → slice_get s.blocks b.0 ≡ p → Good terms lines s t (adopt_outcome c k b.0 parked o p)
  by_parts None e p f = tt
  by_parts (Some v) e None f = tt
  by_parts (Some v) e (Some x) f = adopt_follows terms lines s t of sound stands c k b parked core_at at x f v e

  -- an adoption follows
  pub adopt_good : Good terms lines s t (outcome s (carry_out c k (orders.Adopt b parked)))
  unfolding carry_out
  adopt_good = by_parts k.version refl (slice_get s.blocks b.0) refl
