-- An opening stands for exactly one state of blocks.
use Rattle.std.proofs.Common.{◌≡◌, ℕ, zero, suc, ◌+◌, List, [], ◌∷◌, Some, None, refl, sym, ap, ◌∙◌, subst, map, length, arith}
use Rattle.std.specs.Prelude.{slice_get}
use Rattle.dc_base.specs.Words.{bind, Each}
use Rattle.dc_base.specs.Channels.{Channel, Ring}
use Rattle.dc_base.specs.Lines.{Line, Wire, Counts, latched, line_latch, pending_in}
use Rattle.dc_base.specs.Parts.{Parts}
use Rattle.dc_base.specs.Blocks.{Blocks}
use Rattle.dc_base.specs.Blocks as blocks
use Rattle.dc_base.specs.States.{State, Block, time_of, idle_wire}
use Rattle.dc_base.specs.Shown.{life_of}
use Rattle.dc_base.specs.StandsFor.{StandsFor, BlocksAgree, ring_of, counts_of, signal_of, fate_at}
use Rattle.dc_base.specs.Openings.{IsUnsent, IsOpening, block_opened, blocks_opened}
use Rattle.dc_refine.proofs.CoreStarts.{map_map}
use Rattle.dc_refine.proofs.Members.{In}
use Rattle.dc_refine.proofs.LatchCounts.{numbers_of, latches-counted, held-number, signal-there}

-- readings of the elements of a list that are alike for each of them
alike : {A B : Type 0} (f g : A → B) (xs : List A) → Each xs (λ i x. f x ≡ g x) → map f xs ≡ map g xs
alike f g [] h = refl
alike f g (x ∷ xs) h = ap (λ v. v ∷ map f xs) (h 0 x refl) ∙ ap (λ l. g x ∷ l) (alike f g xs (λ i y e. h (suc i) y e))

map_id : {A : Type 0} (xs : List A) → map (λ x. x) xs ≡ xs
map_id [] = refl
map_id (x ∷ xs) = ap (λ l. x ∷ l) (map_id xs)

no_numbers : (n : ℕ) (ns : List ℕ) → length ns ≡ 0 → In n ns → ⊥
no_numbers n [] e h = h
no_numbers n (m ∷ ns) e h = absurd (omega (arith, e))

abbrev opened_line : Wire → Line
opened_line w = record { bound = w.bound; offer = w.offer; fates = [] }

abbrev opened_channel : Ring → Channel
opened_channel r = record { capacity = r.capacity; messages = []; taken = 0 }

no_fate : (ws : List Wire) (l k : ℕ) → bind (slice_get (map opened_line ws) l) (λ (x : Line). slice_get x.fates k) ≡ Some latched → ⊥
no_fate [] l k h = cc
no_fate (w ∷ ws) zero k h = cc
no_fate (w ∷ ws) (suc l) k h = no_fate ws l k h

ring_unsent : (r : Ring) → IsUnsent r → r ≡ ring_of (opened_channel r)
ring_unsent r h =
    ap (λ l. record { capacity = r.capacity; untaken = l; sent = r.sent; taken = r.taken }) h.untaken
    ∙ ap (λ n. record { capacity = r.capacity; untaken = []; sent = n; taken = r.taken }) h.sent
    ∙ ap (λ n. record { capacity = r.capacity; untaken = []; sent = 0; taken = n }) h.taken

module _ (s : State) (opening : IsOpening s) where
  blocks_agree : BlocksAgree s (blocks_opened s)
  unfolding blocks_opened
  blocks_agree = record {
    parts = map_map (block_opened s.cores) (λ (x : blocks.Block). x.parts) (λ (x : Block). x.control.parts) (λ x. refl) s.blocks;
    times = map_map (block_opened s.cores) (λ (x : blocks.Block). x.clock) (λ (x : Block). time_of s.cores x.whereabouts) (λ x. refl) s.blocks;
    outputs = map_map (block_opened s.cores) (λ (x : blocks.Block). x.output) (λ x. []) (λ x. refl) s.blocks ∙ no_output s.blocks s.consoles (opening.sound.settled.blocks ∙ sym opening.sound.settled.consoles) opening.consoles;
    lives = map_map (block_opened s.cores) (λ (x : blocks.Block). x.lives) (λ (x : Block). map life_of x.control.states) (λ x. refl) s.blocks;
  }
    where
      no_output : (xs : List Block) (cs : List (List ℕ)) → length xs ≡ length cs → Each cs (λ b ws. ws ≡ []) → map (λ x. []) xs ≡ cs
      no_output [] [] e h = refl
      no_output [] (c ∷ cs) e h = absurd (omega (arith, e))
      no_output (x ∷ xs) [] e h = absurd (omega (arith, e))
      no_output (x ∷ xs) (c ∷ cs) e h = ap (λ v. v ∷ map (λ x. []) xs) (sym (h 0 c refl)) ∙ ap (λ l. c ∷ l) (no_output xs cs (omega (arith, e)) (λ i y f. h (suc i) y f))

  no_signal : (b i l v : ℕ) → signal_of (blocks_opened s) b i ≡ Some (line_latch l v) → ⊥
  no_signal b i l v h =
      let ps : List Parts = map (λ (x : Block). x.control.parts) s.blocks in
      no_numbers v (numbers_of l ps) (sym (latches-counted l s.blocks) ∙ opening.latches l) (held-number l v b i ps (signal-there s (blocks_opened s) blocks_agree.parts b i ∙ h))

  no_fate_there : (l k : ℕ) → fate_at (blocks_opened s) l k ≡ Some latched → ⊥
  unfolding blocks_opened
  no_fate_there l k h = no_fate s.lines l k h

  -- the opening stands for it
  pub opening_stands : StandsFor s (blocks_opened s)
  unfolding blocks_opened
  opening_stands = record {
    blocks = record { parts = blocks_agree.parts; times = blocks_agree.times; outputs = blocks_agree.outputs; lives = blocks_agree.lives };
    channels = sym (map_id s.channels) ∙ alike (λ r. r) (λ r. ring_of (opened_channel r)) s.channels (λ i r e. ring_unsent r (opening.channels i r e)) ∙ sym (map_map opened_channel ring_of (λ r. ring_of (opened_channel r)) (λ r. refl) s.channels);
    lines = record {
      bindings = sym (map_map opened_line (λ (x : Line). x.bound) (λ (w : Wire). w.bound) (λ w. refl) s.lines);
      offers = sym (map_map opened_line (λ (x : Line). x.offer) (λ (w : Wire). w.offer) (λ w. refl) s.lines);
      pending = alike (λ (w : Wire). w.pending) (λ w. None) s.lines (λ i w e. ap (λ (w : Wire). w.pending) (opening.lines i w e)) ∙ sym (map_map opened_line (λ (x : Line). pending_in x.fates) (λ w. None) (λ w. refl) s.lines);
      counts = alike (λ (w : Wire). w.counts) (λ w. counts_of []) s.lines (λ i w e. ap (λ (w : Wire). w.counts) (opening.lines i w e)) ∙ sym (map_map opened_line (λ (x : Line). counts_of x.fates) (λ w. counts_of []) (λ w. refl) s.lines);
    };
    latches = record {
      agree = λ l n. (λ g. absurd (no_fate_there l n g), λ g. absurd (no_signal g.0 g.1 l (n + 1) g.2));
      differ = λ l n b i c j g h. absurd (no_signal b i l n g);
      numbered = λ l b i g. no_signal b i l 0 g;
    };
  }

-- lists of blocks with the same parts, times, outputs and lives
same_blocks : (xs ys : List blocks.Block) → map (λ (x : blocks.Block). x.parts) xs ≡ map (λ (x : blocks.Block). x.parts) ys → map (λ (x : blocks.Block). x.clock) xs ≡ map (λ (x : blocks.Block). x.clock) ys →
    map (λ (x : blocks.Block). x.output) xs ≡ map (λ (x : blocks.Block). x.output) ys → map (λ (x : blocks.Block). x.lives) xs ≡ map (λ (x : blocks.Block). x.lives) ys → xs ≡ ys
same_blocks [] [] p c o l = refl
same_blocks [] (y ∷ ys) p c o l = cc
same_blocks (x ∷ xs) [] p c o l = cc
same_blocks (x ∷ xs) (y ∷ ys) p c o l =
    let more = same_blocks xs ys (cc) (cc) (cc) (cc) in
    let a : x.parts ≡ y.parts = cc in let b : x.clock ≡ y.clock = cc in let d : x.output ≡ y.output = cc in let e : x.lives ≡ y.lives = cc in
    ap (λ l. x ∷ l) more
    ∙ ap (λ v. record { parts = v; lives = x.lives; clock = x.clock; output = x.output } ∷ ys) a
    ∙ ap (λ v. record { parts = y.parts; lives = v; clock = x.clock; output = x.output } ∷ ys) e
    ∙ ap (λ v. record { parts = y.parts; lives = y.lives; clock = v; output = x.output } ∷ ys) b
    ∙ ap (λ v. record { parts = y.parts; lives = y.lives; clock = y.clock; output = v } ∷ ys) d

none_in : {A : Type 0} (xs : List A) → length xs ≡ 0 → xs ≡ []
none_in [] e = refl
none_in (x ∷ xs) e = absurd (omega (arith, e))

-- a channel over which nothing was sent
channel_unsent : (c : Channel) → IsUnsent (ring_of c) → c ≡ opened_channel (ring_of c)
channel_unsent c h =
    ap (λ l. record { capacity = c.capacity; messages = l; taken = c.taken }) (none_in c.messages h.sent)
    ∙ ap (λ n. record { capacity = c.capacity; messages = []; taken = n }) h.taken

channels_unsent : (cs : List Channel) → Each (map ring_of cs) (λ x r. IsUnsent r) → cs ≡ map opened_channel (map ring_of cs)
channels_unsent [] h = refl
channels_unsent (c ∷ cs) h = ap (λ v. v ∷ cs) (channel_unsent c (h 0 (ring_of c) refl)) ∙ ap (λ l. opened_channel (ring_of c) ∷ l) (channels_unsent cs (λ i y e. h (suc i) y e))

-- lines that were never raised
line_idle : (w : Wire) (x : Line) → w ≡ idle_wire → w.bound ≡ x.bound → w.offer ≡ x.offer → w.counts ≡ counts_of x.fates → x ≡ opened_line w
line_idle w x e b o c =
    let raised : length x.fates ≡ 0 = sym (ap (λ (c : Counts). c.raised) c) ∙ ap (λ (w : Wire). w.counts.raised) e in
    ap (λ f. record { bound = x.bound; offer = x.offer; fates = f }) (none_in x.fates raised)
    ∙ ap (λ v. record { bound = v; offer = x.offer; fates = [] }) (sym b)
    ∙ ap (λ v. record { bound = w.bound; offer = v; fates = [] }) (sym o)

lines_idle : (ws : List Wire) (xs : List Line) → Each ws (λ l w. w ≡ idle_wire) → map (λ (w : Wire). w.bound) ws ≡ map (λ (x : Line). x.bound) xs → map (λ (w : Wire). w.offer) ws ≡ map (λ (x : Line). x.offer) xs →
    map (λ (w : Wire). w.counts) ws ≡ map (λ (x : Line). counts_of x.fates) xs → xs ≡ map opened_line ws
lines_idle [] [] h b o c = refl
lines_idle [] (x ∷ xs) h b o c = cc
lines_idle (w ∷ ws) [] h b o c = cc
lines_idle (w ∷ ws) (x ∷ xs) h b o c =
    let more = lines_idle ws xs (λ i y e. h (suc i) y e) (cc) (cc) (cc) in
    let f : w.bound ≡ x.bound = cc in let g : w.offer ≡ x.offer = cc in let k : w.counts ≡ counts_of x.fates = cc in
    ap (λ v. v ∷ xs) (line_idle w x (h 0 w refl) f g k) ∙ ap (λ l. opened_line w ∷ l) more

-- and for no other
pub opening_alone : (s : State) (t : Blocks) → IsOpening s → StandsFor s t → t ≡ blocks_opened s
unfolding blocks_opened
opening_alone s t opening stands =
    let agree = blocks_agree s opening in
    let same : t.blocks ≡ map (block_opened s.cores) s.blocks =
    same_blocks t.blocks (map (block_opened s.cores) s.blocks) (stands.blocks.parts ∙ sym agree.parts) (stands.blocks.times ∙ sym agree.times) (stands.blocks.outputs ∙ sym agree.outputs) (stands.blocks.lives ∙ sym agree.lives) in
    let channels : t.channels ≡ map opened_channel s.channels =
    channels_unsent t.channels (subst (λ rs. Each rs (λ x r. IsUnsent r)) stands.channels opening.channels) ∙ ap (map opened_channel) (sym stands.channels) in
    let lines : t.lines ≡ map opened_line s.lines = lines_idle s.lines t.lines opening.lines stands.lines.bindings stands.lines.offers stands.lines.counts in
    ap (λ l. record { blocks = l; channels = t.channels; lines = t.lines }) same
    ∙ ap (λ l. record { blocks = map (block_opened s.cores) s.blocks; channels = l; lines = t.lines }) channels
    ∙ ap (λ l. record { blocks = map (block_opened s.cores) s.blocks; channels = map opened_channel s.channels; lines = l }) lines
