-- The clocks of the blocks on a core go on with its own.
use Rattle.std.proofs.Common.{◌≡◌, ℕ, zero, suc, ◌+◌, ◌<◌, List, [], ◌∷◌, length, Some, refl, sym, ap, ◌∙◌, subst, arith, map, ℤ, pos, negsuc, ◌+ℤ◌, ◌≤ℤ◌, Bool, true, false, if◌then◌else◌}
use Rattle.std.specs.Prelude.{slice_get, slice_set, ◌==◌, nat_lt, filter}
use Rattle.std.specs.Option.{option_map_or}
use Rattle.std.proofs.lemmas.Int.{ints}
use Rattle.std.proofs.lemmas.Bool.Decides.{nat_tests}
use Rattle.dc_base.specs.Words.{bind, change, above_zero}
use Rattle.dc_base.specs.Ports.{latch_at}
use Rattle.dc_base.specs.Parts.{Parts}
use Rattle.dc_base.specs.Blocks as blocks
use Rattle.dc_base.specs.Blocks.{Blocks, Event, advance, in_block}
use Rattle.dc_base.specs.States.{State, Core, Block, Whereabouts, rest, on, clock_of, time_of, time_on}
use Rattle.dc_base.specs.StandsFor.{StandsFor, signal_of}
use Rattle.dc_base.specs.StrikeOut.{advances, times_after}
use Rattle.dc_base.specs.Holders.{held_by}
use Rattle.dc_base.specs.BlockSteps.{advance_in, blocks_step}
use Rattle.dc_base.specs.Telling.{holders_from, with_holder}
use Rattle.dc_refine.proofs.Elements.{slice_get-set_same, slice_get-set_other, change-is_set, changes, map-changes, map-changes_same, length-change, AllBelow, there_below}
use Rattle.dc_refine.proofs.Leads.{Leads, leads_one, leads_both, leads_none, in_block-at}
use Rattle.dc_refine.proofs.Stands.{SameLatches, latches_match_by}

above-more : (k n : ℕ) (z w : ℤ) → pos k +ℤ z ≡ w → pos 0 ≤ℤ w → above_zero (pos (k + n) +ℤ z) ≡ above_zero w + n
above-more k n z (pos m) e h = let f : pos (k + n) +ℤ z ≡ pos (m + n) = omega (arith, ints, e) in ap above_zero f
above-more k n z (negsuc m) e h = absurd (omega (arith, ints, h))

-- a time of at least 0 moves on with the clock
pub time_on-more : (k n : ℕ) (z : ℤ) → pos 0 ≤ℤ (pos k +ℤ z) → time_on (k + n) z ≡ time_on k z + n
time_on-more k n z h = above-more k n z (pos k +ℤ z) refl h

-- core c's clock goes on by n, and no other
pub record Moves (c n : ℕ) (cs ds : List Core) : Type 0 where
  pub this : clock_of ds c ≡ clock_of cs c + n
  pub others : (d : ℕ) → (d == c) ≡ false → clock_of ds d ≡ clock_of cs d

pub moves_set : (cs : List Core) (c n : ℕ) (k new : Core) → slice_get cs c ≡ Some k → new.clock ≡ k.clock + n → Moves c n cs (slice_set cs c new)
moves_set cs c n k new h e = record {
  this = ap (λ o. option_map_or (λ (k : Core). k.clock) o 0) (slice_get-set_same cs c k new h) ∙ e ∙ ap (λ o. option_map_or (λ (k : Core). k.clock) o 0 + n) (sym h);
  others = λ d f. ap (λ o. option_map_or (λ (k : Core). k.clock) o 0) (slice_get-set_other cs c d new f);
}

-- the time of a block is at least 0
abbrev pub InTime : List Core → Whereabouts → Type 0
InTime cs (rest kept) = Unit {0}
InTime cs (on d z v) = pos 0 ≤ℤ (pos (clock_of cs d) +ℤ z)

abbrev pub AllInTime : List Core → List Block → Type 0
AllInTime cs xs = (i : ℕ) (x : Block) → slice_get xs i ≡ Some x → InTime cs x.whereabouts

-- the numbers of the blocks after the first are one more
held_shift_by : (c k : ℕ) (w : Whereabouts) (ps qs : List (ℕ × ℕ)) → held_by c qs ≡ map (λ m. m + 1) (held_by c ps) → held_by c (with_holder (k + 1) w qs) ≡ map (λ m. m + 1) (held_by c (with_holder k w ps))
held_shift_by c k (rest kept) ps qs h = h
held_shift_by c k (on d z v) ps qs h = by_test (d == c)
  where
    by_test : (t : Bool) → map (λ (p : ℕ × ℕ). p.0) (if t then (k + 1, d) ∷ filter (λ (p : ℕ × ℕ). p.1 == c) qs else filter (λ (p : ℕ × ℕ). p.1 == c) qs)
        ≡ map (λ m. m + 1) (map (λ (p : ℕ × ℕ). p.0) (if t then (k, d) ∷ filter (λ (p : ℕ × ℕ). p.1 == c) ps else filter (λ (p : ℕ × ℕ). p.1 == c) ps))
    by_test true = ap (λ l. (k + 1) ∷ l) h
    by_test false = h

pub held_shift : (c k : ℕ) (xs : List Block) → held_by c (holders_from (k + 1) xs) ≡ map (λ m. m + 1) (held_by c (holders_from k xs))
held_shift c k [] = refl
held_shift c k (x ∷ xs) = held_shift_by c k x.whereabouts (holders_from (k + 1) xs) (holders_from (k + 1 + 1) xs) (held_shift c (k + 1) xs)

add_one : {n : ℕ} → n + 1 ≡ suc n
add_one = omega arith

changes_shift : {A : Type 0} → (f : A → A) (bs : List ℕ) (y : A) (ys : List A) → changes f (map (λ m. m + 1) bs) (y ∷ ys) ≡ y ∷ changes f bs ys
changes_shift f [] y ys = refl
changes_shift f (b ∷ bs) y ys = ap (λ i. changes f (map (λ m. m + 1) bs) (change f i (y ∷ ys))) add_one ∙ changes_shift f bs y (change f b ys)

below_shift : (n : ℕ) (bs : List ℕ) → AllBelow n bs → AllBelow (suc n) (map (λ m. m + 1) bs)
below_shift n [] h = tt
below_shift n (b ∷ bs) h = (omega (arith, h.0), below_shift n bs h.1)

-- the held blocks exist
pub held_below : (c : ℕ) (xs : List Block) → AllBelow (length xs) (held_by c (holders_from 0 xs))
held_below c [] = tt
held_below c (x ∷ xs) = by_place x.whereabouts (subst (AllBelow (suc (length xs))) (sym (held_shift c 0 xs)) (below_shift (length xs) (held_by c (holders_from 0 xs)) (held_below c xs)))
  where
    by_place : (w : Whereabouts) → AllBelow (suc (length xs)) (held_by c (holders_from 1 xs)) → AllBelow (suc (length xs)) (held_by c (with_holder 0 w (holders_from 1 xs)))
    by_place (rest kept) h = h
    by_place (on d z v) h = by_test (d == c)
      where
        by_test : (t : Bool) → AllBelow (suc (length xs)) (map (λ (p : ℕ × ℕ). p.0) (if t then (0, d) ∷ filter (λ (p : ℕ × ℕ). p.1 == c) (holders_from 1 xs) else filter (λ (p : ℕ × ℕ). p.1 == c) (holders_from 1 xs)))
        by_test true = (omega arith, h)
        by_test false = h

module _ (c n : ℕ) (cs ds : List Core) (moves : Moves c n cs ds) where
  -- the times move on exactly where the core holds the block
  time_moved : (w : Whereabouts) (ps : List (ℕ × ℕ)) (xs : List Block) → InTime cs w → ps ≡ holders_from 1 xs →
      changes (λ k. k + n) (held_by c (holders_from 0 xs)) (map (λ (x : Block). time_of cs x.whereabouts) xs) ≡ map (λ (x : Block). time_of ds x.whereabouts) xs →
      changes (λ k. k + n) (held_by c (with_holder 0 w (holders_from 1 xs))) (time_of cs w ∷ map (λ (x : Block). time_of cs x.whereabouts) xs) ≡ time_of ds w ∷ map (λ (x : Block). time_of ds x.whereabouts) xs
  time_moved (rest kept) ps xs h e more = ap (λ l. changes (λ k. k + n) l (kept ∷ map (λ (x : Block). time_of cs x.whereabouts) xs)) (held_shift c 0 xs) ∙ changes_shift (λ k. k + n) (held_by c (holders_from 0 xs)) kept (map (λ (x : Block). time_of cs x.whereabouts) xs) ∙ ap (λ l. kept ∷ l) more
  time_moved (on d z v) ps xs h e more = by_test (d == c) refl
    where
      times : List ℕ
      times = map (λ (x : Block). time_of cs x.whereabouts) xs

      by_test : (t : Bool) → (d == c) ≡ t →
          changes (λ k. k + n) (map (λ (p : ℕ × ℕ). p.0) (if t then (0, d) ∷ filter (λ (p : ℕ × ℕ). p.1 == c) (holders_from 1 xs) else filter (λ (p : ℕ × ℕ). p.1 == c) (holders_from 1 xs))) (time_on (clock_of cs d) z ∷ map (λ (x : Block). time_of cs x.whereabouts) xs)
          ≡ time_on (clock_of ds d) z ∷ map (λ (x : Block). time_of ds x.whereabouts) xs
      by_test true f =
          let same : d ≡ c = grind (arith, nat_tests, f) in
          let new : time_on (clock_of ds d) z ≡ time_on (clock_of cs d) z + n = ap (λ k. time_on k z) (ap (clock_of ds) same ∙ moves.this ∙ ap (λ d. clock_of cs d + n) (sym same)) ∙ time_on-more (clock_of cs d) n z h in
          ap (λ l. changes (λ k. k + n) l ((time_on (clock_of cs d) z + n) ∷ map (λ (x : Block). time_of cs x.whereabouts) xs)) (held_shift c 0 xs)
          ∙ changes_shift (λ k. k + n) (held_by c (holders_from 0 xs)) (time_on (clock_of cs d) z + n) (map (λ (x : Block). time_of cs x.whereabouts) xs)
          ∙ ap (λ l. (time_on (clock_of cs d) z + n) ∷ l) more ∙ ap (λ k. k ∷ map (λ (x : Block). time_of ds x.whereabouts) xs) (sym new)
      by_test false f =
          ap (λ l. changes (λ k. k + n) l (time_on (clock_of cs d) z ∷ map (λ (x : Block). time_of cs x.whereabouts) xs)) (held_shift c 0 xs)
          ∙ changes_shift (λ k. k + n) (held_by c (holders_from 0 xs)) (time_on (clock_of cs d) z) (map (λ (x : Block). time_of cs x.whereabouts) xs)
          ∙ ap (λ l. time_on (clock_of cs d) z ∷ l) more ∙ ap (λ k. time_on k z ∷ map (λ (x : Block). time_of ds x.whereabouts) xs) (sym (moves.others d f))

  pub times_moved : (xs : List Block) → AllInTime cs xs →
      changes (λ k. k + n) (held_by c (holders_from 0 xs)) (map (λ (x : Block). time_of cs x.whereabouts) xs) ≡ map (λ (x : Block). time_of ds x.whereabouts) xs
  times_moved [] h = refl
  times_moved (x ∷ xs) h = time_moved x.whereabouts (holders_from 1 xs) xs (h 0 x refl) refl (times_moved xs (λ i y e. h (suc i) y e))

-- what these events tell of times
pub times_after-advances : (n : ℕ) (bs : List ℕ) (times : List ℕ) → times_after times (advances n bs) ≡ changes (λ k. k + n) bs times
times_after-advances n [] times = refl
times_after-advances n (b ∷ bs) times = times_after-advances n bs (change (λ k. k + n) b times)

abbrev pub later : ℕ → blocks.Block → blocks.Block
later n y = record y { clock = y.clock + n }

advance_step : (t : Blocks) (b n : ℕ) → blocks_step t (advance b n) ≡ in_block t b (advance_in n)
unfolding blocks_step
advance_step t b n = refl

advance_in-is : (n : ℕ) (y : blocks.Block) → 0 < n → advance_in n y ≡ Some (later n y)
unfolding advance_in
advance_in-is n y h = let e : nat_lt 0 n ≡ true = grind (arith, nat_tests) in rw e refl

pub advance_there : (t : Blocks) (b n : ℕ) (y : blocks.Block) → 0 < n → slice_get t.blocks b ≡ Some y → Leads t (advance b n ∷ []) (record t { blocks = change (later n) b t.blocks })
advance_there t b n y h at =
    leads_one t (record t { blocks = change (later n) b t.blocks }) (advance b n)
    (advance_step t b n ∙ in_block-at t b (advance_in n) y (later n y) at (advance_in-is n y h) ∙ ap (λ l. Some (record t { blocks = l })) (sym (change-is_set (later n) t.blocks b y at)))

-- the advances of these blocks lead on
pub leads_advances : (n : ℕ) (bs : List ℕ) (t : Blocks) → 0 < n → AllBelow (length t.blocks) bs → Leads t (advances n bs) (record t { blocks = changes (later n) bs t.blocks })
leads_advances n [] t h within = leads_none t
leads_advances n (b ∷ bs) t h within =
    let at = there_below t.blocks b within.0 in
    let u : Blocks = record t { blocks = change (later n) b t.blocks } in
    leads_both t u (record t { blocks = changes (later n) bs u.blocks }) (advance b n ∷ []) (advances n bs) (advance_there t b n at.0 h at.1)
    (leads_advances n bs u h (subst (λ m. AllBelow m bs) (sym (length-change (later n) b t.blocks)) within.1))

signal_of-parts : (xs : List blocks.Block) (b i : ℕ) → bind (slice_get xs b) (λ (x : blocks.Block). latch_at x.parts.signals i) ≡ bind (slice_get (map (λ (x : blocks.Block). x.parts) xs) b) (λ (p : Parts). latch_at p.signals i)
signal_of-parts [] b i = refl
signal_of-parts (x ∷ xs) zero i = refl
signal_of-parts (x ∷ xs) (suc b) i = signal_of-parts xs b i

pub same_latches_parts : (t u : Blocks) → map (λ (x : blocks.Block). x.parts) u.blocks ≡ map (λ (x : blocks.Block). x.parts) t.blocks → SameLatches t u
same_latches_parts t u e = record {
  there = λ l n b i.
      let same : signal_of u b i ≡ signal_of t b i = signal_of-parts u.blocks b i ∙ ap (λ ps. bind (slice_get ps b) (λ (p : Parts). latch_at p.signals i)) e ∙ sym (signal_of-parts t.blocks b i) in
      (λ h. same ∙ h, λ h. sym same ∙ h);
}

-- the clock of core c goes on by n: what stood for the state stands for it after the advances
pub stands_later : (s : State) (t : Blocks) (c n : ℕ) (ds : List Core) → StandsFor s t → Moves c n s.cores ds → AllInTime s.cores s.blocks →
    StandsFor (record s { cores = ds }) (record t { blocks = changes (later n) (held_by c (holders_from 0 s.blocks)) t.blocks })
stands_later s t c n ds stands moves within =
    let bs : List ℕ = held_by c (holders_from 0 s.blocks) in
    let u : Blocks = record t { blocks = changes (later n) bs t.blocks } in
    let parts = map-changes_same (λ (x : blocks.Block). x.parts) (later n) (λ x. refl) bs t.blocks in
    record {
      blocks = record {
        parts = parts ∙ stands.blocks.parts;
        times = map-changes (λ (x : blocks.Block). x.clock) (later n) (λ k. k + n) (λ x. refl) bs t.blocks ∙ ap (changes (λ k. k + n) bs) stands.blocks.times ∙ times_moved c n s.cores ds moves s.blocks within;
        outputs = map-changes_same (λ (x : blocks.Block). x.output) (later n) (λ x. refl) bs t.blocks ∙ stands.blocks.outputs;
        lives = map-changes_same (λ (x : blocks.Block). x.lives) (later n) (λ x. refl) bs t.blocks ∙ stands.blocks.lives;
      };
      channels = stands.channels;
      lines = record { bindings = stands.lines.bindings; offers = stands.lines.offers; pending = stands.lines.pending; counts = stands.lines.counts };
      latches = latches_match_by t u (same_latches_parts t u parts) refl stands.latches;
    }
