-- The start of an image stands for the start of its blocks, and agrees with what is told before the first entry.
use Rattle.std.proofs.Common.{◌≡◌, ℕ, zero, suc, ◌+◌, List, [], ◌∷◌, Bool, true, false, Option, Some, None, refl, sym, ap, ◌∙◌, map, replicate, pos, ◌-ℤ◌}
use Rattle.std.specs.Prelude.{slice_get, IfSome, IsSome, unwrap_or, if◌then◌else◌}
use Rattle.std.specs.Option.{option_map, option_map_or}
use Rattle.dc_base.specs.declared.images.Image.{Image}
use Rattle.dc_base.specs.declared.images.CoreImage.{CoreImage}
use Rattle.dc_base.specs.declared.images.BlockImage.{BlockImage}
use Rattle.dc_base.specs.declared.images.DispImage.{DispImage}
use Rattle.dc_base.specs.declared.images.ChanImage.{ChanImage}
use Rattle.dc_base.specs.declared.numbers.CoreNo.{CoreNo}
use Rattle.dc_base.specs.declared.kernels.Version.{Version}
use Rattle.dc_base.specs.declared.dispatchers.DispState.TheVariants as disp
use Rattle.dc_base.specs.declared.interrupts.Latch.{Latch}
use Rattle.dc_base.specs.declared.commands.ScriptLine.{ScriptLine}
use Rattle.dc_base.specs.Words.{bind, Each, is_number}
use Rattle.dc_base.specs.Ports.{latch_at}
use Rattle.dc_base.specs.Parts.{parts_of}
use Rattle.dc_base.specs.Lines.{Line, Wire, latched, line_latch, pending_in}
use Rattle.dc_base.specs.ControlBlocks.{control_start}
use Rattle.dc_base.specs.Boot.{home_from, boot_cores, boot_start}
use Rattle.dc_base.specs.Blocks.{Blocks, Life, live, block_start, blocks_start}
use Rattle.dc_base.specs.Blocks as blocks
use Rattle.dc_base.specs.States.{State, Settings, Core, Block, Member, Whereabouts, rest, on, core_in, time_of, time_on, place_on, settings_of, home_members_from, core_started, cores_from, first_place, block_started, idle_wire, core_start}
use Rattle.dc_base.specs.Shown.{life_of}
use Rattle.dc_base.specs.StandsFor.{StandsFor, LatchesMatch, ring_of, counts_of}
use Rattle.dc_base.specs.StrikeOut.{told_start}
use Rattle.dc_base.specs.Holders.{homes_from, held_start}
use Rattle.dc_base.specs.Answers.{answered_start}
use Rattle.dc_base.specs.Runs.{terms_of, seen_start}
use Rattle.dc_base.specs.Progress.{home_block, parked_blocks, booted_of, boot_of}
use Rattle.dc_base.specs.Telling.{Agrees, IsOf, holders_from, with_holder}
use Rattle.dc_base.specs.Valid.{IsValid, IsOnAtStart}
use Rattle.dc_refine.proofs.Handovers.{time_put}

pub map_map : {A B C : Type 0} (f : A → B) (g : B → C) (h : A → C) → ((x : A) → g (f x) ≡ h x) → (xs : List A) → map g (map f xs) ≡ map h xs
map_map f g h same [] = refl
map_map f g h same (x ∷ xs) = ap (λ v. v ∷ map g (map f xs)) (same x) ∙ ap (λ l. h x ∷ l) (map_map f g h same xs)

-- cores
clocks_from : (t : Settings) (c : ℕ) (bs : List BlockImage) (ks : List CoreImage) → map (λ (k : CoreImage). k.base) ks ≡ map (λ (k : Core). k.clock) (cores_from t c bs ks)
clocks_from t c bs [] = refl
clocks_from t c bs (k ∷ ks) = ap (λ l. k.base ∷ l) (clocks_from t (c + 1) bs ks)

core_there : (t : Settings) (c : ℕ) (bs : List BlockImage) (ks : List CoreImage) (i : ℕ) (k : CoreImage) → slice_get ks i ≡ Some k → option_map_or (λ (k : Core). k.clock) (slice_get (cores_from t c bs ks) i) 0 ≡ k.base
core_there t c bs [] i k h = cc
core_there t c bs (x ∷ ks) zero k h = let e : x ≡ k = cc in ap (λ (k : CoreImage). k.base) e
core_there t c bs (x ∷ ks) (suc i) k h = core_there t (c + 1) bs ks i k h

home_is_by : (n : ℕ) (f : Bool) (ms : List Member) (o : Option ℕ) → home_block ms ≡ o → home_block (if f then record { block = n; parked = false } ∷ ms else ms) ≡ (if f then Some n else o)
home_is_by n true ms o e = refl
home_is_by n false ms o e = e

home_is : (c n : ℕ) (bs : List BlockImage) → home_block (home_members_from c n bs) ≡ home_from c n bs
home_is c n [] = refl
home_is c n (b ∷ bs) = home_is_by n (is_number c (option_map (λ (h : CoreNo). h.0) b.home)) (home_members_from c (n + 1) bs) (home_from c (n + 1) bs) (home_is c (n + 1) bs)

none_parked_by : (n : ℕ) (f : Bool) (ms : List Member) → parked_blocks ms ≡ [] → parked_blocks (if f then record { block = n; parked = false } ∷ ms else ms) ≡ []
none_parked_by n true ms e = e
none_parked_by n false ms e = e

none_parked : (c n : ℕ) (bs : List BlockImage) → parked_blocks (home_members_from c n bs) ≡ []
none_parked c n [] = refl
none_parked c n (b ∷ bs) = none_parked_by n (is_number c (option_map (λ (h : CoreNo). h.0) b.home)) (home_members_from c (n + 1) bs) (none_parked c (n + 1) bs)

booted_from : (t : Settings) (c : ℕ) (bs : List BlockImage) (ks : List CoreImage) → boot_cores c bs ks ≡ map booted_of (cores_from t c bs ks)
booted_from t c bs [] = refl
booted_from t c bs (k ∷ ks) =
    ap (λ h. option_map (λ v. record { version = v; home = h; parked = [] }) k.version ∷ boot_cores (c + 1) bs ks) (sym (home_is c 0 bs))
    ∙ ap (λ p. option_map (λ v. record { version = v; home = home_block (home_members_from c 0 bs); parked = p }) k.version ∷ boot_cores (c + 1) bs ks) (sym (none_parked c 0 bs))
    ∙ ap (λ l. booted_of (core_started t c bs k) ∷ l) (booted_from t (c + 1) bs ks)

-- where a block is first
module _ (t : Settings) (bs : List BlockImage) (ks : List CoreImage) where
  abbrev cores : List Core
  cores = cores_from t 0 bs ks

  -- its time is 0
  time_by_version : (h : CoreNo) (k : CoreImage) → slice_get ks h.0 ≡ Some k → (v : Option Version) → time_of cores (unwrap_or (option_map (λ v. place_on h.0 k.base 0 v) v) (rest 0)) ≡ 0
  time_by_version h k at None = refl
  time_by_version h k at (Some v) = ap (λ n. time_on n (pos 0 -ℤ pos k.base)) (core_there t 0 bs ks h.0 k at) ∙ time_put k.base 0

  time_by_core : (h : CoreNo) (o : Option CoreImage) → slice_get ks h.0 ≡ o → time_of cores (unwrap_or (bind o (λ (k : CoreImage). option_map (λ v. place_on h.0 k.base 0 v) k.version)) (rest 0)) ≡ 0
  time_by_core h None e = refl
  time_by_core h (Some k) e = time_by_version h k e k.version

  time_first : (home : Option CoreNo) → time_of cores (first_place ks home) ≡ 0
  time_first None = refl
  time_first (Some h) = time_by_core h (slice_get ks h.0) refl

  -- it is on its home
  place_by_version : (h : CoreNo) (k : CoreImage) (v : Option Version) → IsSome v → core_in (unwrap_or (option_map (λ v. place_on h.0 k.base 0 v) v) (rest 0)) ≡ Some h.0
  place_by_version h k None e = cc
  place_by_version h k (Some v) e = refl

  place_first : (home : Option CoreNo) → IfSome home (IsOnAtStart ks) → core_in (first_place ks home) ≡ option_map (λ (h : CoreNo). h.0) home
  place_first None valid = refl
  place_first (Some h) valid =
      ap (λ o. core_in (unwrap_or (bind o (λ (k : CoreImage). option_map (λ v. place_on h.0 k.base 0 v) k.version)) (rest 0))) valid.1
      ∙ place_by_version h valid.0 valid.0.version valid.2

  holder_by : (n : ℕ) (w : Whereabouts) (o : Option CoreNo) (ps : List (ℕ × ℕ)) → core_in w ≡ option_map (λ (h : CoreNo). h.0) o → option_map_or (λ (h : CoreNo). (n, h.0) ∷ ps) o ps ≡ with_holder n w ps
  holder_by n (rest kept) None ps e = refl
  holder_by n (rest kept) (Some h) ps e = cc
  holder_by n (on c z v) None ps e = cc
  holder_by n (on c z v) (Some h) ps e = let f : h.0 ≡ c = cc in ap (λ c. (n, c) ∷ ps) f

  homes_held : (n : ℕ) (xs : List BlockImage) → Each xs (λ b x. IfSome x.home (IsOnAtStart ks)) → homes_from n xs ≡ holders_from n (map (block_started ks) xs)
  homes_held n [] valid = refl
  homes_held n (x ∷ xs) valid =
      ap (λ ps. option_map_or (λ (h : CoreNo). (n, h.0) ∷ ps) x.home ps) (homes_held (n + 1) xs (λ i y e. valid (suc i) y e))
      ∙ holder_by n (first_place ks x.home) x.home (holders_from (n + 1) (map (block_started ks) xs)) (place_first x.home (valid 0 x refl))

  places_from : (xs : List BlockImage) → Each xs (λ b x. IfSome x.home (IsOnAtStart ks)) → map (λ (b : BlockImage). option_map (λ (h : CoreNo). h.0) b.home) xs ≡ map (λ (x : Block). core_in x.whereabouts) (map (block_started ks) xs)
  places_from [] valid = refl
  places_from (x ∷ xs) valid =
      ap (λ o. o ∷ map (λ (b : BlockImage). option_map (λ (h : CoreNo). h.0) b.home) xs) (sym (place_first x.home (valid 0 x refl)))
      ∙ ap (λ l. core_in (first_place ks x.home) ∷ l) (places_from xs (λ i y e. valid (suc i) y e))

-- lines
map_replicate : {A B : Type 0} (f : A → B) (n : ℕ) (x : A) → map f (replicate n x) ≡ replicate n (f x)
map_replicate f zero x = refl
map_replicate f (suc n) x = ap (λ l. f x ∷ l) (map_replicate f n x)

both_replicated : {A B C : Type 0} (f : A → C) (g : B → C) (n : ℕ) (x : A) (y : B) → f x ≡ g y → map f (replicate n x) ≡ map g (replicate n y)
both_replicated f g n x y e = map_replicate f n x ∙ ap (replicate n) e ∙ sym (map_replicate g n y)

abbrev line_start : Line
line_start = record { bound = None; offer = None; fates = [] }

no_fate : (n l k : ℕ) → bind (slice_get (replicate n line_start) l) (λ (x : Line). slice_get x.fates k) ≡ Some latched → ⊥
no_fate zero l k h = cc
no_fate (suc n) zero k h = cc
no_fate (suc n) (suc l) k h = no_fate n l k h

-- signals
no_latch : (n i : ℕ) (l : Latch) → latch_at (replicate n None) i ≡ Some l → ⊥
no_latch zero i l h = cc
no_latch (suc n) zero l h = cc
no_latch (suc n) (suc i) l h = no_latch n i l h

no_signal : (xs : List BlockImage) (b i : ℕ) (l : Latch) → bind (slice_get (map block_start xs) b) (λ (x : blocks.Block). latch_at x.parts.signals i) ≡ Some l → ⊥
unfolding parts_of
no_signal [] b i l h = cc
no_signal (x ∷ xs) zero i l h = no_latch x.signals i l h
no_signal (x ∷ xs) (suc b) i l h = no_signal xs b i l h

module _ (image : Image) (script : List ScriptLine) where
  abbrev start : State
  start = core_start image script

  no_latches : LatchesMatch (blocks_start image)
  unfolding blocks_start
  no_latches = record {
    agree = λ l n. (λ g. absurd (no_fate image.lines l n g), λ g. absurd (no_signal image.blocks g.0 g.1 (line_latch l (n + 1)) g.2));
    differ = λ l n b i c j g h. absurd (no_signal image.blocks b i (line_latch l n) g);
    numbered = λ l b i g. no_signal image.blocks b i (line_latch l 0) g;
  }

  parts_same : (b : BlockImage) → (control_start b).parts ≡ parts_of b
  unfolding control_start
  parts_same b = refl

  lives_start : (ds : List DispImage) → map life_of (map (λ (d : DispImage). disp.Ready) ds) ≡ map (λ (d : DispImage). live) ds
  lives_start ds = map_map (λ (d : DispImage). disp.Ready) life_of (λ (d : DispImage). live) (λ d. refl) ds

  lives_same : (b : BlockImage) → map life_of (control_start b).states ≡ map (λ (d : DispImage). live) b.disps
  unfolding control_start
  lives_same b = lives_start b.disps

  -- the start stands for the start of the blocks
  pub start_stands : StandsFor (core_start image script) (blocks_start image)
  unfolding core_start blocks_start
  start_stands = record {
    blocks = record {
      parts = map_map block_start (λ (x : blocks.Block). x.parts) parts_of (λ b. refl) image.blocks ∙ sym (map_map (block_started image.cores) (λ (x : Block). x.control.parts) parts_of parts_same image.blocks);
      times = map_map block_start (λ (x : blocks.Block). x.clock) (λ b. 0) (λ b. refl) image.blocks
          ∙ sym (map_map (block_started image.cores) (λ (x : Block). time_of (cores_from (settings_of image) 0 image.blocks image.cores) x.whereabouts) (λ b. 0) (λ b. time_first (settings_of image) image.blocks image.cores b.home) image.blocks);
      outputs = map_map block_start (λ (x : blocks.Block). x.output) (λ b. []) (λ b. refl) image.blocks;
      lives = map_map block_start (λ (x : blocks.Block). x.lives) (λ (b : BlockImage). map (λ (d : DispImage). live) b.disps) (λ b. refl) image.blocks
          ∙ sym (map_map (block_started image.cores) (λ (x : Block). map life_of x.control.states) (λ (b : BlockImage). map (λ (d : DispImage). live) b.disps) lives_same image.blocks);
    };
    channels = sym (map_map (λ (c : ChanImage). record { capacity = c.capacity; messages = []; taken = 0 }) ring_of (λ (c : ChanImage). record { capacity = c.capacity; untaken = []; sent = 0; taken = 0 }) (λ c. refl) image.channels);
    lines = record {
      bindings = both_replicated (λ (w : Wire). w.bound) (λ (x : Line). x.bound) image.lines idle_wire line_start refl;
      offers = both_replicated (λ (w : Wire). w.offer) (λ (x : Line). x.offer) image.lines idle_wire line_start refl;
      pending = both_replicated (λ (w : Wire). w.pending) (λ (x : Line). pending_in x.fates) image.lines idle_wire line_start refl;
      counts = both_replicated (λ (w : Wire). w.counts) (λ (x : Line). counts_of x.fates) image.lines idle_wire line_start refl;
    };
    latches = record { agree = no_latches.agree; differ = no_latches.differ; numbered = no_latches.numbered };
  }

  -- and agrees with what is told before the first entry
  pub start_agrees : IsValid image → Agrees (core_start image script) (seen_start image script)
  unfolding core_start seen_start told_start held_start boot_start boot_of answered_start blocks_start
  start_agrees valid = record {
    clocks = clocks_from (settings_of image) 0 image.blocks image.cores;
    times = sym (map_map block_start (λ (x : blocks.Block). x.clock) (λ (b : BlockImage). 0) (λ b. refl) image.blocks);
    holders = homes_held (settings_of image) image.blocks image.cores 0 image.blocks valid.homes;
    boot =
        ap (λ l. record { cores = l; places = map (λ (b : BlockImage). option_map (λ (h : CoreNo). h.0) b.home) image.blocks }) (booted_from (settings_of image) 0 image.blocks image.cores)
        ∙ ap (λ l. record { cores = map booted_of (cores_from (settings_of image) 0 image.blocks image.cores); places = l }) (places_from (settings_of image) image.blocks image.cores image.blocks valid.homes);
    place = refl;
    begun = refl;
    left = refl;
    posted = refl;
    raises = refl;
  }

  pub start_is_of : IsOf (terms_of image) script (core_start image script)
  unfolding core_start
  start_is_of = record { same_terms = refl; same_lines = refl }
