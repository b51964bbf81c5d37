-- What an entry keeps that takes a core's clock on, and leaves every block where it is.
use Rattle.std.proofs.Common.{◌≡◌, ℕ, zero, suc, ◌+◌, ◌<◌, List, [], ◌∷◌, ◌++◌, length, Bool, true, false, Some, refl, sym, ap, ◌∙◌, subst, arith, map}
use Rattle.std.specs.Prelude.{slice_get, slice_set, replicate, ◌==◌, ◌&&◌, ◌||◌, not, is_some}
use Rattle.std.specs.Option.{option_map}
use Rattle.std.proofs.lemmas.List.{map-set, length-map}
use Rattle.std.proofs.lemmas.Option.{slice_get-map, get_or_from_slice_get}
use Rattle.std.proofs.lemmas.Bool.Decides.{nat_tests}
use Rattle.std.proofs.lemmas.Bool.{or_right}
use Rattle.dc_base.specs.declared.calls.End.{End}
use Rattle.dc_base.specs.declared.calls.End.TheVariants as end
use Rattle.dc_base.specs.declared.kernels.Version.{Version}
use Rattle.dc_base.specs.Words.{bind}
use Rattle.dc_base.specs.Boot.{booted_at}
use Rattle.dc_base.specs.Blocks.{Blocks, Event, instr, fire, advance}
use Rattle.dc_base.specs.Blocks as blocks
use Rattle.dc_base.specs.States.{State, Core, Block, Whereabouts, rest, on, core_in, time_of}
use Rattle.dc_base.specs.Placed.{IsOn}
use Rattle.dc_base.specs.StandsFor.{StandsFor}
use Rattle.dc_base.specs.StrikeOut.{clock_told, advances, end_events, times_after}
use Rattle.dc_base.specs.Holders.{held_by, holds, is_free, held_once}
use Rattle.dc_base.specs.Progress.{boot_of, booted_of, home_block, parked_blocks}
use Rattle.dc_base.specs.Telling.{holders_from, with_holder, clocks_of, times_of, told_of, answered_of}
use Rattle.dc_refine.proofs.Elements.{slice_set-same, changes, AllBelow, there_too, same_at}
use Rattle.dc_refine.proofs.Leads.{Leads}
use Rattle.dc_refine.proofs.Clocks.{Moves, moves_set, InTime, AllInTime, times_moved, times_after-advances, later, leads_advances, held_below, stands_later}

-- a reading of a reading
pub map_through : {A B C : Type 0} → (f : A → B) (g : B → C) (xs : List A) → map (λ x. g (f x)) xs ≡ map g (map f xs)
map_through f g [] = refl
map_through f g (x ∷ xs) = ap (λ l. g (f x) ∷ l) (map_through f g xs)

pub map_alike : {A B C : Type 0} → (f : A → B) (g : B → C) (xs ys : List A) → map f xs ≡ map f ys → map (λ x. g (f x)) xs ≡ map (λ x. g (f x)) ys
map_alike f g xs ys e = map_through f g xs ∙ ap (map g) e ∙ sym (map_through f g ys)

pub map_set_same : {A B : Type 0} → (f : A → B) (xs : List A) (i : ℕ) (x new : A) → slice_get xs i ≡ Some x → f new ≡ f x → map f (slice_set xs i new) ≡ map f xs
map_set_same f xs i x new h e = map-set f xs i new ∙ ap (slice_set (map f xs) i) e ∙ slice_set-same (map f xs) i (f x) (slice_get-map f xs i ∙ ap (option_map f) h)

-- the places of blocks, and who holds which
abbrev pub place_of : Block → Whereabouts
place_of x = x.whereabouts

abbrev holders_at : ℕ → List Whereabouts → List (ℕ × ℕ)
holders_at n [] = []
holders_at n (w ∷ ws) = with_holder n w (holders_at (n + 1) ws)

holders_are : (n : ℕ) (xs : List Block) → holders_from n xs ≡ holders_at n (map place_of xs)
holders_are n [] = refl
holders_are n (x ∷ xs) = ap (with_holder n x.whereabouts) (holders_are (n + 1) xs)

pub holders_alike : (xs ys : List Block) → map place_of xs ≡ map place_of ys → holders_from 0 xs ≡ holders_from 0 ys
holders_alike xs ys e = holders_are 0 xs ∙ ap (holders_at 0) e ∙ sym (holders_are 0 ys)

-- the core that a block is on holds it
holds_further : (w : Whereabouts) (n c b : ℕ) (ps : List (ℕ × ℕ)) → holds ps c b ≡ true → holds (with_holder n w ps) c b ≡ true
holds_further (rest kept) n c b ps h = h
holds_further (on d z v) n c b ps h = or_right (n == b && d == c) (holds ps c b) h

same_test : (n m : ℕ) → n ≡ m → (n == m) ≡ true
same_test n m e = grind (arith, nat_tests, e)

holds_first : (w : Whereabouts) (n c b : ℕ) (ps : List (ℕ × ℕ)) → IsOn c w → n ≡ b → holds (with_holder n w ps) c b ≡ true
holds_first (rest kept) n c b ps h e = absurd h
holds_first (on d z v) n c b ps h e = ap (λ t. (t && d == c) || holds ps c b) (same_test n b e) ∙ ap (λ t. t || holds ps c b) (same_test d c h)

pub holds_from : (n : ℕ) (xs : List Block) (i c b : ℕ) (x : Block) → slice_get xs i ≡ Some x → IsOn c x.whereabouts → b ≡ n + i → holds (holders_from n xs) c b ≡ true
holds_from n [] i c b x h on_core e = cc
holds_from n (y ∷ xs) zero c b x h on_core e =
    let same : y ≡ x = cc in holds_first y.whereabouts n c b (holders_from (n + 1) xs) (subst (λ (v : Block). IsOn c v.whereabouts) (sym same) on_core) (omega (arith, e))
holds_from n (y ∷ xs) (suc i) c b x h on_core e = holds_further y.whereabouts n c b (holders_from (n + 1) xs) (holds_from (n + 1) xs i c b x h on_core (omega (arith, e)))

-- no block stands in two pairs
other_test : (n m : ℕ) → m < n → not (n == m) ≡ true
other_test n m h = let f : (n == m) ≡ false = grind (arith, nat_tests, h) in ap not f

free_first : (w : Whereabouts) (n m : ℕ) (ps : List (ℕ × ℕ)) → m < n → is_free ps m ≡ true → is_free (with_holder n w ps) m ≡ true
free_first (rest kept) n m ps h f = f
free_first (on d z v) n m ps h f = ap (λ t. t && is_free ps m) (other_test n m h) ∙ f

free_below : (n : ℕ) (xs : List Block) (m : ℕ) → m < n → is_free (holders_from n xs) m ≡ true
free_below n [] m h = refl
free_below n (x ∷ xs) m h = free_first x.whereabouts n m (holders_from (n + 1) xs) h (free_below (n + 1) xs m (omega (arith, h)))

once_first : (w : Whereabouts) (n : ℕ) (ps : List (ℕ × ℕ)) → is_free ps n ≡ true → held_once ps ≡ true → held_once (with_holder n w ps) ≡ true
once_first (rest kept) n ps f h = h
once_first (on d z v) n ps f h = ap (λ t. t && held_once ps) f ∙ h

pub held_once_from : (n : ℕ) (xs : List Block) → held_once (holders_from n xs) ≡ true
held_once_from n [] = refl
held_once_from n (x ∷ xs) = once_first x.whereabouts n (holders_from (n + 1) xs) (free_below (n + 1) xs n (omega arith)) (held_once_from (n + 1) xs)

-- what a core's turn keeps: the places of all blocks, the boot state, and how far the script is answered
pub record Turned (s : State) (c : ℕ) (k new : Core) (after : State) : Type 0 where
  pub there : slice_get s.cores c ≡ Some k
  pub cores : after.cores ≡ slice_set s.cores c new
  pub places : map place_of after.blocks ≡ map place_of s.blocks
  pub script : after.script ≡ s.script
  pub mailboxes : after.mailboxes ≡ s.mailboxes
  pub version : new.version ≡ k.version
  pub home : home_block new.share ≡ home_block k.share
  pub parked : parked_blocks new.share ≡ parked_blocks k.share

-- the core is on in the boot state
pub booted_at-on : (s : State) (c : ℕ) (k : Core) (v : Version) → slice_get s.cores c ≡ Some k → k.version ≡ Some v → is_some (booted_at (boot_of s) c) ≡ true
unfolding boot_of
booted_at-on s c k v h e =
    let there : slice_get (map booted_of s.cores) c ≡ Some (Some (record { version = v; home = home_block k.share; parked = parked_blocks k.share })) =
    slice_get-map booted_of s.cores c ∙ ap (option_map booted_of) h ∙ ap (λ o. Some (option_map (λ v. record { version = v; home = home_block k.share; parked = parked_blocks k.share }) o)) e in
    ap (λ o. is_some (bind o (λ p. p))) there

module _ (s : State) (c : ℕ) (k new : Core) (after : State) (turned : Turned s c k new after) where
  pub boot_kept : boot_of after ≡ boot_of s
  unfolding boot_of
  boot_kept =
      let same : booted_of new ≡ booted_of k =
      ap (λ o. option_map (λ v. record { version = v; home = home_block new.share; parked = parked_blocks new.share }) o) turned.version
      ∙ ap (λ h. option_map (λ v. record { version = v; home = h; parked = parked_blocks new.share }) k.version) turned.home
      ∙ ap (λ p. option_map (λ v. record { version = v; home = home_block k.share; parked = p }) k.version) turned.parked in
      ap (λ cs. record { cores = map booted_of cs; places = map (λ (x : Block). core_in x.whereabouts) after.blocks }) turned.cores
      ∙ ap (λ l. record { cores = l; places = map (λ (x : Block). core_in x.whereabouts) after.blocks }) (map_set_same booted_of s.cores c k new turned.there same)
      ∙ ap (λ l. record { cores = map booted_of s.cores; places = l }) (map_alike place_of core_in after.blocks s.blocks turned.places)

  pub answered_kept : answered_of after ≡ answered_of s
  answered_kept =
      ap (λ sc. answered_of (record s { script = sc; mailboxes = after.mailboxes })) turned.script ∙ ap (λ ms. answered_of (record s { mailboxes = ms })) turned.mailboxes

  pub holders_kept : holders_from 0 after.blocks ≡ holders_from 0 s.blocks
  holders_kept = holders_alike after.blocks s.blocks turned.places

  pub clocks_after_turn : clocks_of after ≡ slice_set (clocks_of s) c new.clock
  clocks_after_turn = ap (map (λ (k : Core). k.clock)) turned.cores ∙ map-set (λ (k : Core). k.clock) s.cores c new

  -- the clock that was told of the core
  pub clock_was : (t : Blocks) → clock_told (told_of s t) c ≡ k.clock
  clock_was t = get_or_from_slice_get (clocks_of s) c k.clock 0 (slice_get-map (λ (k : Core). k.clock) s.cores c ∙ ap (option_map (λ (k : Core). k.clock)) turned.there)

  -- the times that are told after the advances are those of the blocks
  pub times_turned : (t u : Blocks) (n : ℕ) → StandsFor s t → StandsFor after u → AllInTime s.cores s.blocks → new.clock ≡ k.clock + n →
      times_after (times_of t) (advances n (held_by c (holders_from 0 s.blocks))) ≡ times_of u
  times_turned t u n stands stands' within clock =
      let bs : List ℕ = held_by c (holders_from 0 s.blocks) in
      times_after-advances n bs (times_of t)
      ∙ ap (changes (λ k. k + n) bs) stands.blocks.times
      ∙ times_moved c n s.cores (slice_set s.cores c new) (moves_set s.cores c n k new turned.there clock) s.blocks within
      ∙ sym (map_alike place_of (time_of (slice_set s.cores c new)) after.blocks s.blocks turned.places)
      ∙ ap (λ cs. map (λ (x : Block). time_of cs x.whereabouts) after.blocks) (sym turned.cores)
      ∙ sym stands'.blocks.times

-- events before the advances tell nothing of times
pub times_fires : (n b : ℕ) (times : List ℕ) (es : List Event) → times_after times (replicate n (fire b) ++ es) ≡ times_after times es
times_fires zero b times es = refl
times_fires (suc n) b times es = times_fires n b times es

pub times_instrs : (n b d : ℕ) (times : List ℕ) (es : List Event) → times_after times (replicate n (instr b d) ++ es) ≡ times_after times es
times_instrs zero b d times es = refl
times_instrs (suc n) b d times es = times_instrs n b d times es

pub times_end : (b d : ℕ) (e : End) (times : List ℕ) (es : List Event) → times_after times (end_events b d e ++ es) ≡ times_after times es
times_end b d end.Quantum times es = refl
times_end b d end.Halt times es = refl
times_end b d (end.Trap x) times es = refl
times_end b d (end.Call o) times es = refl
times_end b d (end.Hold o) times es = refl
times_end b d end.Empty times es = refl

-- blocks that are where they were are at times of at least 0
pub in_time_alike : (cs : List Core) (xs ys : List Block) → map place_of ys ≡ map place_of xs → AllInTime cs xs → AllInTime cs ys
in_time_alike cs xs ys e h i y at =
    let x = there_too place_of place_of ys xs i y e at in
    let same : y.whereabouts ≡ x.0.whereabouts = same_at place_of place_of ys xs i y x.0 e at x.1 in
    subst (λ w. InTime cs w) (sym same) (h i x.0 x.1)

-- after what a turn did the clocks go on
pub record GoesOnTo (s m : State) (c n : ℕ) (new : Core) (u : Blocks) : Type 0 where
  pub last : Blocks
  pub leads : Leads u (advances n (held_by c (holders_from 0 s.blocks))) last
  pub stands : StandsFor (record m { cores = slice_set s.cores c new }) last

pub clock_goes_on : (s m : State) (u : Blocks) (c n : ℕ) (k new : Core) → slice_get s.cores c ≡ Some k → new.clock ≡ k.clock + n → 0 < n → m.cores ≡ s.cores → map place_of m.blocks ≡ map place_of s.blocks → StandsFor m u → AllInTime s.cores s.blocks → GoesOnTo s m c n new u
clock_goes_on s m u c n k new there clock some cores places stands within =
    let bs : List ℕ = held_by c (holders_from 0 s.blocks) in
    let moves : Moves c n m.cores (slice_set s.cores c new) = subst (λ cs. Moves c n cs (slice_set s.cores c new)) (sym cores) (moves_set s.cores c n k new there clock) in
    let within_m : AllInTime m.cores m.blocks = subst (λ cs. AllInTime cs m.blocks) (sym cores) (in_time_alike s.cores s.blocks m.blocks places within) in
    let same : holders_from 0 m.blocks ≡ holders_from 0 s.blocks = holders_alike m.blocks s.blocks places in
    let lengths : length u.blocks ≡ length s.blocks =
    sym (length-map u.blocks (λ (x : blocks.Block). x.parts)) ∙ ap length stands.blocks.parts ∙ length-map m.blocks (λ (x : Block). x.control.parts) ∙ sym (length-map m.blocks place_of) ∙ ap length places ∙ length-map s.blocks place_of in
    record {
      last = record u { blocks = changes (later n) bs u.blocks };
      leads = leads_advances n bs u some (subst (λ l. AllBelow l bs) (sym lengths) (held_below c s.blocks));
      stands = subst (λ hs. StandsFor (record m { cores = slice_set s.cores c new }) (record u { blocks = changes (later n) (held_by c hs) u.blocks })) same (stands_later m u c n (slice_set s.cores c new) stands moves within_m);
    }
