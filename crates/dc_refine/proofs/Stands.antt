-- A state stands for another after one block of both has changed.
use Rattle.std.proofs.Common.{◌≡◌, ℕ, zero, suc, ◌+◌, List, [], ◌∷◌, Option, Some, refl, sym, ap, ◌∙◌, map, subst}
use Rattle.std.specs.Prelude.{◌↔◌, slice_get, slice_set}
use Rattle.std.proofs.lemmas.List.{map-set}
use Rattle.dc_base.specs.declared.interrupts.Latch.{Latch}
use Rattle.dc_base.specs.Words.{bind}
use Rattle.dc_base.specs.Parts.{Parts}
use Rattle.dc_base.specs.Ports.{latch_at}
use Rattle.dc_base.specs.Lines.{Line, line_latch}
use Rattle.dc_base.specs.Blocks.{Blocks, Life}
use Rattle.dc_base.specs.Blocks as blocks
use Rattle.dc_base.specs.States.{State, Core, with_control, time_of}
use Rattle.dc_base.specs.States as cores
use Rattle.dc_base.specs.ControlBlocks.{ControlBlock}
use Rattle.dc_base.specs.Shown.{life_of}
use Rattle.dc_base.specs.StandsFor.{StandsFor, BlocksAgree, LatchesAgree, LatchesMatch, signal_of, fate_at}
use Rattle.dc_refine.proofs.Elements.{slice_set-same, same_at, there_too}
use Rattle.dc_refine.proofs.Leads.{with_block}

-- what a control block stands for, at a time and with what it has put out
abbrev pub plain : ℕ → List ℕ → ControlBlock → blocks.Block
plain time ws x = record { parts = x.parts; lives = map life_of x.states; clock = time; output = ws }

-- the same line latches are in the same signals
pub record SameLatches (t u : Blocks) : Type 0 where
  pub there : (l n b i : ℕ) → (signal_of t b i ≡ Some (line_latch l n)) ↔ (signal_of u b i ≡ Some (line_latch l n))

-- in one block
pub record SameLatchesIn (p q : Parts) : Type 0 where
  pub there : (l n i : ℕ) → (latch_at p.signals i ≡ Some (line_latch l n)) ↔ (latch_at q.signals i ≡ Some (line_latch l n))

pub same_signals : (p q : Parts) → p.signals ≡ q.signals → SameLatchesIn p q
same_signals p q e = record { there = λ l n i. (λ h. ap (λ v. latch_at v i) (sym e) ∙ h, λ h. ap (λ v. latch_at v i) e ∙ h) }

pub same_latches_both : (p q r : Parts) → SameLatchesIn p q → SameLatchesIn q r → SameLatchesIn p r
same_latches_both p q r f g = record { there = λ l n i. (λ h. (g.there l n i).0 ((f.there l n i).0 h), λ h. (f.there l n i).1 ((g.there l n i).1 h)) }

-- after one block has changed
pub set_signals : (xs : List blocks.Block) (b : ℕ) (y z : blocks.Block) (i : ℕ) (l : Latch) → slice_get xs b ≡ Some y → (latch_at y.parts.signals i ≡ Some l → latch_at z.parts.signals i ≡ Some l) →
    (c : ℕ) → bind (slice_get xs c) (λ (x : blocks.Block). latch_at x.parts.signals i) ≡ Some l → bind (slice_get (slice_set xs b z) c) (λ (x : blocks.Block). latch_at x.parts.signals i) ≡ Some l
set_signals [] b y z i l h f c g = cc
set_signals (x ∷ xs) zero y z i l h f zero g = let e : x ≡ y = cc in f (ap (λ (v : blocks.Block). latch_at v.parts.signals i) (sym e) ∙ g)
set_signals (x ∷ xs) zero y z i l h f (suc c) g = g
set_signals (x ∷ xs) (suc b) y z i l h f zero g = g
set_signals (x ∷ xs) (suc b) y z i l h f (suc c) g = set_signals xs b y z i l h f c g

pub set_signals_back : (xs : List blocks.Block) (b : ℕ) (y z : blocks.Block) (i : ℕ) (l : Latch) → slice_get xs b ≡ Some y → (latch_at z.parts.signals i ≡ Some l → latch_at y.parts.signals i ≡ Some l) →
    (c : ℕ) → bind (slice_get (slice_set xs b z) c) (λ (x : blocks.Block). latch_at x.parts.signals i) ≡ Some l → bind (slice_get xs c) (λ (x : blocks.Block). latch_at x.parts.signals i) ≡ Some l
set_signals_back [] b y z i l h f c g = cc
set_signals_back (x ∷ xs) zero y z i l h f zero g = let e : x ≡ y = cc in ap (λ (v : blocks.Block). latch_at v.parts.signals i) e ∙ f g
set_signals_back (x ∷ xs) zero y z i l h f (suc c) g = g
set_signals_back (x ∷ xs) (suc b) y z i l h f zero g = g
set_signals_back (x ∷ xs) (suc b) y z i l h f (suc c) g = set_signals_back xs b y z i l h f c g

pub same_latches_set : (t : Blocks) (b : ℕ) (y z : blocks.Block) → slice_get t.blocks b ≡ Some y → SameLatchesIn y.parts z.parts → SameLatches t (with_block t b z)
same_latches_set t b y z h s = record {
  there = λ l n c i. (λ g. set_signals t.blocks b y z i (line_latch l n) h (s.there l n i).0 c g, λ g. set_signals_back t.blocks b y z i (line_latch l n) h (s.there l n i).1 c g);
}

-- with the same latches and the same fates the latches agree
latches_agree_by : (t u : Blocks) → SameLatches t u → u.lines ≡ t.lines → LatchesAgree t → LatchesAgree u
latches_agree_by t u s e a = λ l n.
    let fates : fate_at u l n ≡ fate_at t l n = ap (λ ls. bind (slice_get ls l) (λ (x : Line). slice_get x.fates n)) e in (
      λ g. let h = (a l n).0 (sym fates ∙ g) in (h.0, h.1, (s.there l (n + 1) h.0 h.1).0 h.2),
      λ g. fates ∙ (a l n).1 (g.0, g.1, (s.there l (n + 1) g.0 g.1).1 g.2),
    )

pub latches_match_by : (t u : Blocks) → SameLatches t u → u.lines ≡ t.lines → LatchesMatch t → LatchesMatch u
latches_match_by t u s e m = record {
  agree = latches_agree_by t u s e m.agree;
  differ = λ l n b i c j h g. m.differ l n b i c j ((s.there l n b i).1 h) ((s.there l n c j).1 g);
  numbered = λ l b i h. m.numbered l b i ((s.there l 0 b i).1 h);
}

module _ (s : State) (t : Blocks) (stands : StandsFor s t) (b : ℕ) (x : cores.Block) (ws : List ℕ)
    (block_at : slice_get s.blocks b ≡ Some x) (console_at : slice_get s.consoles b ≡ Some ws) where
  seen_by : (o : Option blocks.Block) → slice_get t.blocks b ≡ o → (y : blocks.Block) × (o ≡ Some y) → slice_get t.blocks b ≡ Some (plain (time_of s.cores x.whereabouts) ws x.control)
  seen_by o h (y, e) =
      let at : slice_get t.blocks b ≡ Some y = h ∙ e in
      let parts : y.parts ≡ x.control.parts = same_at (λ (x : blocks.Block). x.parts) (λ (x : cores.Block). x.control.parts) t.blocks s.blocks b y x stands.blocks.parts at block_at in
      let time : y.clock ≡ time_of s.cores x.whereabouts = same_at (λ (x : blocks.Block). x.clock) (λ (x : cores.Block). time_of s.cores x.whereabouts) t.blocks s.blocks b y x stands.blocks.times at block_at in
      let lives : y.lives ≡ map life_of x.control.states = same_at (λ (x : blocks.Block). x.lives) (λ (x : cores.Block). map life_of x.control.states) t.blocks s.blocks b y x stands.blocks.lives at block_at in
      let same_console : map (λ (x : blocks.Block). x.output) t.blocks ≡ map (λ (w : List ℕ). w) s.consoles = stands.blocks.outputs ∙ sym (map_same s.consoles) in
      let output : y.output ≡ ws = same_at (λ (x : blocks.Block). x.output) (λ (w : List ℕ). w) t.blocks s.consoles b y ws same_console at console_at in
      at ∙ ap (λ p. Some (record { parts = p; lives = y.lives; clock = y.clock; output = y.output })) parts
      ∙ ap (λ v. Some (record { parts = x.control.parts; lives = v; clock = y.clock; output = y.output })) lives
      ∙ ap (λ n. Some (record { parts = x.control.parts; lives = map life_of x.control.states; clock = n; output = y.output })) time
      ∙ ap (λ w. Some (record { parts = x.control.parts; lives = map life_of x.control.states; clock = time_of s.cores x.whereabouts; output = w })) output
    where
      map_same : (l : List (List ℕ)) → map (λ (w : List ℕ). w) l ≡ l
      map_same [] = refl
      map_same (w ∷ l) = ap (λ v. w ∷ v) (map_same l)

  -- the block as the machine of blocks has it
  pub block_seen : slice_get t.blocks b ≡ Some (plain (time_of s.cores x.whereabouts) ws x.control)
  block_seen = seen_by (slice_get t.blocks b) refl (there_too (λ (x : cores.Block). x.control.parts) (λ (x : blocks.Block). x.parts) s.blocks t.blocks b x (sym stands.blocks.parts) block_at)

  -- the block is another afterwards
  module _ (new : cores.Block) (words : List ℕ) where
    abbrev plain_new : blocks.Block
    plain_new = plain (time_of s.cores new.whereabouts) words new.control

    pub blocks_set : BlocksAgree (record s { blocks = slice_set s.blocks b new; consoles = slice_set s.consoles b words }) (with_block t b (plain (time_of s.cores new.whereabouts) words new.control))
    blocks_set = record {
      parts = map-set (λ (x : blocks.Block). x.parts) t.blocks b plain_new ∙ ap (λ l. slice_set l b new.control.parts) stands.blocks.parts ∙ sym (map-set (λ (x : cores.Block). x.control.parts) s.blocks b new);
      times = map-set (λ (x : blocks.Block). x.clock) t.blocks b plain_new ∙ ap (λ l. slice_set l b (time_of s.cores new.whereabouts)) stands.blocks.times ∙ sym (map-set (λ (x : cores.Block). time_of s.cores x.whereabouts) s.blocks b new);
      outputs = map-set (λ (x : blocks.Block). x.output) t.blocks b plain_new ∙ ap (λ l. slice_set l b words) stands.blocks.outputs;
      lives = map-set (λ (x : blocks.Block). x.lives) t.blocks b plain_new ∙ ap (λ l. slice_set l b (map life_of new.control.states)) stands.blocks.lives ∙ sym (map-set (λ (x : cores.Block). map life_of x.control.states) s.blocks b new);
    }

    pub stands_set : SameLatchesIn x.control.parts new.control.parts → StandsFor (record s { blocks = slice_set s.blocks b new; consoles = slice_set s.consoles b words }) (with_block t b (plain (time_of s.cores new.whereabouts) words new.control))
    stands_set same = record {
      blocks = blocks_set;
      channels = stands.channels;
      lines = record { bindings = stands.lines.bindings; offers = stands.lines.offers; pending = stands.lines.pending; counts = stands.lines.counts };
      latches = latches_match_by t (with_block t b plain_new) (same_latches_set t b (plain (time_of s.cores x.whereabouts) ws x.control) plain_new block_seen same) refl stands.latches;
    }

  -- the control block changes, and nothing else
  pub set_alone : (new : ControlBlock) → SameLatchesIn x.control.parts new.parts → StandsFor (record s { blocks = slice_set s.blocks b (with_control new x) }) (with_block t b (plain (time_of s.cores x.whereabouts) ws new))
  set_alone new same =
      subst (λ cs. StandsFor (record s { blocks = slice_set s.blocks b (with_control new x); consoles = cs }) (with_block t b (plain (time_of s.cores x.whereabouts) ws new))) (slice_set-same s.consoles b ws console_at)
      (stands_set (with_control new x) ws same)
