-- One block is moved between a core and rest, at a time.
use Rattle.std.proofs.Common.{◌≡◌, ℕ, List, Some, refl, sym, ap, ◌∙◌, subst, map, pos, ◌+ℤ◌, ◌-ℤ◌}
use Rattle.std.specs.Prelude.{slice_get, slice_set}
use Rattle.std.specs.Option.{option_map, option_map_or}
use Rattle.std.proofs.lemmas.Int.{ints}
use Rattle.std.proofs.lemmas.Option.{slice_get-map, get_or_from_slice_get, slice_get_within}
use Rattle.std.proofs.Common.{◌<◌, arith}
use Rattle.dc_base.specs.Words.{above_zero}
use Rattle.dc_base.specs.Blocks.{Blocks}
use Rattle.dc_base.specs.Blocks as blocks
use Rattle.dc_base.specs.States.{State, Core, Block, Mailbox, Whereabouts, rest, on, time_of, time_at, time_on, clock_of}
use Rattle.dc_base.specs.StandsFor.{StandsFor}
use Rattle.dc_base.specs.StrikeOut.{time_told}
use Rattle.dc_base.specs.Placed.{IsOn}
use Rattle.dc_base.specs.Progress.{IsRest}
use Rattle.dc_base.specs.Runs.{block_clock}
use Rattle.dc_base.specs.Sound.{IsSound}
use Rattle.dc_base.specs.Telling.{told_of, times_of}
use Rattle.dc_refine.proofs.Elements.{slice_set-same, there_below}
use Rattle.dc_refine.proofs.Leads.{with_block}
use Rattle.dc_refine.proofs.Stands.{plain, block_seen, stands_set, same_signals}
use Rattle.dc_refine.proofs.Beside.{stands_cores, stands_beside, same_wires}

-- the time of a block on core c by the core's clock
pub time_here : (s : State) (c : ℕ) (k : Core) (w : Whereabouts) → slice_get s.cores c ≡ Some k → IsOn c w → time_at k.clock w ≡ time_of s.cores w
time_here s c k (rest kept) h e = refl
time_here s c k (on d z v) h e = ap (λ n. time_on n z) (sym (ap (clock_of s.cores) e ∙ ap (λ o. option_map_or (λ (k : Core). k.clock) o 0) h))

-- the time of a block at rest
pub time_at_rest : (s : State) (clock : ℕ) (w : Whereabouts) → IsRest w → time_at clock w ≡ time_of s.cores w
time_at_rest s clock (rest kept) r = refl
time_at_rest s clock (on d z v) r = absurd r

-- a block put on a core at a time is at that time
pub time_put : (clock time : ℕ) → time_on clock (pos time -ℤ pos clock) ≡ time
time_put clock time = let e : pos clock +ℤ (pos time -ℤ pos clock) ≡ pos time = omega (arith, ints) in ap above_zero e

module _ (s : State) (t : Blocks) (sound : IsSound s) (stands : StandsFor s t) (b : ℕ) (x : Block) (block_at : slice_get s.blocks b ≡ Some x) where
  pub console : (ws : List ℕ) × (slice_get s.consoles b ≡ Some ws)
  console = there_below s.consoles b (subst (λ n. b < n) (sound.settled.blocks ∙ sym sound.settled.consoles) (slice_get_within s.blocks b x block_at))

  abbrev pub y : blocks.Block
  y = plain (time_of s.cores x.whereabouts) console.0 x.control

  pub seen : slice_get t.blocks b ≡ Some y
  seen = block_seen s t stands b x console.0 block_at console.1

  -- the clock that the machine of blocks has of it
  pub clock_seen : block_clock t b ≡ time_of s.cores x.whereabouts
  clock_seen = ap (λ o. option_map_or (λ (x : blocks.Block). x.clock) o 0) seen

  pub time_seen : time_told (told_of s t) b ≡ time_of s.cores x.whereabouts
  time_seen = get_or_from_slice_get (times_of t) b (time_of s.cores x.whereabouts) 0 (slice_get-map (λ (x : blocks.Block). x.clock) t.blocks b ∙ ap (option_map (λ (x : blocks.Block). x.clock)) seen)

  -- the block elsewhere, with other cores of the same clocks
  pub stands_moved : (w : Whereabouts) (cores : List Core) (mailboxes : List Mailbox) → map (λ (k : Core). k.clock) cores ≡ map (λ (k : Core). k.clock) s.cores →
      StandsFor (record s { cores = cores; mailboxes = mailboxes; blocks = slice_set s.blocks b (record x { whereabouts = w }) }) (with_block t b (record y { clock = time_of s.cores w }))
  stands_moved w cores mailboxes clocks =
      let u : Blocks = with_block t b (record y { clock = time_of s.cores w }) in
      let m : State = record s { blocks = slice_set s.blocks b (record x { whereabouts = w }) } in
      stands_cores (record m { mailboxes = mailboxes }) u cores clocks
      (stands_beside m u s.script mailboxes s.lines (same_wires s.lines)
      (subst (λ cs. StandsFor (record m { consoles = cs }) u) (slice_set-same s.consoles b console.0 console.1)
      (stands_set s t stands b x console.0 block_at console.1 (record x { whereabouts = w }) console.0 (same_signals x.control.parts x.control.parts refl))))

  -- at the time at which it was
  pub same_block : with_block t b (record y { clock = time_of s.cores x.whereabouts }) ≡ t
  same_block = ap (λ l. record t { blocks = l }) (slice_set-same t.blocks b y seen)
