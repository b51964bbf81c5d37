-- An intake: the pending raise of a line reaches its signal in both machines.
use Rattle.std.proofs.Common.{◌≡◌, ℕ, suc, ◌+◌, ◌<◌, List, length, Option, Some, None, refl, sym, ap, ◌∙◌, subst, arith, inl, inr, ◌⊎◌}
use Rattle.std.specs.Prelude.{slice_get, slice_set, count_by, is_some}
use Rattle.dc_base.specs.declared.interrupts.Latch.{Latch}
use Rattle.dc_base.specs.declared.interrupts.Latched.TheVariants as how
use Rattle.dc_base.specs.declared.interrupts.Source.TheVariants as source
use Rattle.dc_base.specs.declared.numbers.LineNo.{LineNo}
use Rattle.dc_base.specs.Words.{bind, count_of}
use Rattle.dc_base.specs.Ports.{latch_at, signals_after}
use Rattle.dc_base.specs.Lines.{Line, Wire, Counts, pending, latched, joined, is_pending, line_latch, wire_after_intake}
use Rattle.dc_base.specs.ControlBlocks.{ControlBlock}
use Rattle.dc_base.specs.Blocks.{Blocks}
use Rattle.dc_base.specs.Blocks as blocks
use Rattle.dc_base.specs.BlockSteps.{with_latch}
use Rattle.dc_base.specs.States.{State, Block, with_control, time_of}
use Rattle.dc_base.specs.Firing.{latch_in}
use Rattle.dc_base.specs.StandsFor.{StandsFor, BlocksAgree, LatchesAgree, LatchesDiffer, LatchesNumbered, LatchesMatch, signal_of, fate_at, counts_of}
use Rattle.dc_base.specs.KeptOutside.{KeepsCounts}
use Rattle.dc_refine.proofs.Elements.{slice_set-same, slice_get-set_same, same_at}
use Rattle.dc_refine.proofs.Leads.{with_block}
use Rattle.dc_refine.proofs.Stands.{plain, blocks_set, block_seen, set_signals}
use Rattle.dc_refine.proofs.Fires.{plain-latch_in}
use Rattle.dc_refine.proofs.Beside.{lines_set}
use Rattle.dc_refine.proofs.Fates.{kinds_counted, none_pending_after, counts_latched, counts_joined, latched_on, latched_back, latched_there, joined_on, joined_back}
use Rattle.dc_refine.proofs.Comings.{came_there, came_on, came_back, occupied, block_came_back}

latch_same : (l m k n : ℕ) → line_latch l k ≡ line_latch m n → (l ≡ m) × (k ≡ n)
latch_same l m k n e =
    let v : k ≡ n = ap (λ (h : Latch). h.value) e in
    let o : source.Line (record { 0 = l }) ≡ source.Line (record { 0 = m }) = ap (λ (h : Latch). h.source) e in
    let r : ◌≡◌ {A = LineNo} (record { 0 = l }) (record { 0 = m }) = cc in
    (ap (λ (h : LineNo). h.0) r, v)

-- a line with its pending raise, number m + 1, bound to a signal of block b
pub record IntakeAt (s : State) (t : Blocks) (l b signal m : ℕ) (x : Block) (ws : List ℕ) (w : Wire) (old : Line) : Type 0 where
  pub stands : StandsFor s t
  pub counted : KeepsCounts s
  pub block_at : slice_get s.blocks b ≡ Some x
  pub console_at : slice_get s.consoles b ≡ Some ws
  pub wire_at : slice_get s.lines l ≡ Some w
  pub line_at : slice_get t.lines l ≡ Some old
  pub is_pending_now : w.pending ≡ Some (suc m)
  pub fate : slice_get old.fates m ≡ Some pending
  pub within : signal < length x.control.parts.signals

module _ (s : State) (t : Blocks) (l b signal m : ℕ) (x : Block) (ws : List ℕ) (w : Wire) (old : Line) (here : IntakeAt s t l b signal m x ws w old) where
  abbrev latch : Latch
  latch = line_latch l (suc m)

  abbrev y : blocks.Block
  y = plain (time_of s.cores x.whereabouts) ws x.control

  pub seen : slice_get t.blocks b ≡ Some (plain (time_of s.cores x.whereabouts) ws x.control)
  seen = block_seen s t here.stands b x ws here.block_at here.console_at

  counts : w.counts ≡ counts_of old.fates
  counts = same_at (λ (w : Wire). w.counts) (λ (x : Line). counts_of x.fates) s.lines t.lines l w old here.stands.lines.counts here.wire_at here.line_at

  bound : w.bound ≡ old.bound
  bound = same_at (λ (w : Wire). w.bound) (λ (x : Line). x.bound) s.lines t.lines l w old here.stands.lines.bindings here.wire_at here.line_at

  offer : w.offer ≡ old.offer
  offer = same_at (λ (w : Wire). w.offer) (λ (x : Line). x.offer) s.lines t.lines l w old here.stands.lines.offers here.wire_at here.line_at

  -- one fate is pending
  one_pending : count_by is_pending old.fates ≡ 1
  one_pending =
      let c = here.counted l w here.wire_at in
      let p : count_of (is_some w.pending) ≡ 1 = ap (λ (o : Option ℕ). count_of (is_some o)) here.is_pending_now in
      let k = kinds_counted old.fates in
      let r : w.counts.raised ≡ length old.fates = ap (λ (c : Counts). c.raised) counts in
      let a = ap (λ (c : Counts). c.stray) counts in let b = ap (λ (c : Counts). c.merged) counts in let d = ap (λ (c : Counts). c.given) counts in let e = ap (λ (c : Counts). c.joined) counts in
      omega (arith, c, p, k, r, a, b, d, e)

  fate_there : fate_at t l m ≡ Some pending
  fate_there = ap (λ o. bind o (λ (x : Line). slice_get x.fates m)) here.line_at ∙ here.fate

  not_latched : fate_at t l m ≡ Some latched → ⊥
  not_latched h = let e : Some pending ≡ Some latched = sym fate_there ∙ h in cc

  abbrev new : ControlBlock
  new = latch_in signal (line_latch l (suc m)) x.control

  abbrev moved : State
  moved = record s { blocks = slice_set s.blocks b (with_control (latch_in signal (line_latch l (suc m)) x.control) x) }

  abbrev latched_block : blocks.Block
  latched_block = with_latch signal (line_latch l (suc m)) (plain (time_of s.cores x.whereabouts) ws x.control)

  blocks_now : BlocksAgree moved (with_block t b latched_block)
  blocks_now =
      subst (λ z. BlocksAgree moved (with_block t b z)) (plain-latch_in (time_of s.cores x.whereabouts) ws signal latch x.control)
      (subst (λ cs. BlocksAgree (record moved { consoles = cs }) (with_block t b (plain (time_of s.cores x.whereabouts) ws new))) (slice_set-same s.consoles b ws here.console_at)
      (blocks_set s t here.stands b x ws here.block_at here.console_at (with_control new x) ws))

  -- an empty signal takes the latch
  module _ (empty : latch_at x.control.parts.signals signal ≡ None) where
    abbrev line_now : Line
    line_now = record old { fates = slice_set old.fates m latched }

    abbrev u : Blocks
    u = record (with_block t b latched_block) { lines = slice_set t.lines l (record old { fates = slice_set old.fates m latched }) }

    there : signal_of u b signal ≡ Some latch
    unfolding signals_after
    there =
        ap (λ o. bind o (λ (x : blocks.Block). latch_at x.parts.signals signal)) (slice_get-set_same t.blocks b y latched_block seen)
        ∙ came_there x.control.parts.signals signal latch here.within empty

    stays : (k : Latch) (c j : ℕ) → signal_of t c j ≡ Some k → signal_of u c j ≡ Some k
    unfolding signals_after
    stays k c j g = set_signals t.blocks b y latched_block j k seen (λ h. came_on x.control.parts.signals signal latch k j h) c g

    came : (k : Latch) (c j : ℕ) → signal_of u c j ≡ Some k → ((c ≡ b) × (j ≡ signal) × (k ≡ latch)) ⊎ (signal_of t c j ≡ Some k)
    unfolding signals_after
    came k c j g = block_came_back t.blocks b y latched_block signal latch seen (λ j k h. came_back x.control.parts.signals signal latch k j h) c j k g

    add_one : (n : ℕ) → suc n ≡ n + 1
    add_one n = omega arith

    to_signal : (n k : ℕ) → ((n ≡ l) × (k ≡ m)) ⊎ (fate_at t n k ≡ Some latched) → (c : ℕ) × (j : ℕ) × (signal_of u c j ≡ Some (line_latch n (k + 1)))
    to_signal n k (inl e) = (b, signal, there ∙ ap (λ v. Some (line_latch v (suc m))) (sym e.0) ∙ ap (λ v. Some (line_latch n (suc v))) (sym e.1) ∙ ap (λ v. Some (line_latch n v)) (add_one k))
    to_signal n k (inr h) = let r = (here.stands.latches.agree n k).0 h in (r.0, r.1, stays (line_latch n (k + 1)) r.0 r.1 r.2)

    to_fate : (n k c j : ℕ) → ((c ≡ b) × (j ≡ signal) × (line_latch n (k + 1) ≡ latch)) ⊎ (signal_of t c j ≡ Some (line_latch n (k + 1))) → fate_at u n k ≡ Some latched
    to_fate n k c j (inl e) =
        let same = latch_same n l (k + 1) (suc m) e.2 in
        let number : k ≡ m = omega (arith, same.1) in
        ap (λ v. fate_at u v k) same.0 ∙ ap (λ v. fate_at u l v) number ∙ latched_there t.lines l m old pending here.line_at here.fate
    to_fate n k c j (inr h) = latched_on t.lines l m old here.line_at n k ((here.stands.latches.agree n k).1 (c, j, h))

    agree_now : LatchesAgree u
    agree_now = λ n k. (λ g. to_signal n k (latched_back t.lines l m old here.line_at n k g), λ g. to_fate n k g.0 g.1 (came (line_latch n (k + 1)) g.0 g.1 g.2))

    one_latch : (n k c j : ℕ) → line_latch n k ≡ latch → signal_of t c j ≡ Some (line_latch n k) → ⊥
    one_latch n k c j e h = not_latched ((here.stands.latches.agree l m).1 (c, j, h ∙ ap Some e ∙ ap (λ v. Some (line_latch l v)) (add_one m)))

    apart : (n k c i d j : ℕ) → ((c ≡ b) × (i ≡ signal) × (line_latch n k ≡ latch)) ⊎ (signal_of t c i ≡ Some (line_latch n k)) → ((d ≡ b) × (j ≡ signal) × (line_latch n k ≡ latch)) ⊎ (signal_of t d j ≡ Some (line_latch n k)) → (c ≡ d) × (i ≡ j)
    apart n k c i d j (inl e) (inl f) = (e.0 ∙ sym f.0, e.1 ∙ sym f.1)
    apart n k c i d j (inl e) (inr h) = absurd (one_latch n k d j e.2 h)
    apart n k c i d j (inr g) (inl f) = absurd (one_latch n k c i f.2 g)
    apart n k c i d j (inr g) (inr h) = here.stands.latches.differ n k c i d j g h

    differ_now : LatchesDiffer u
    differ_now = λ n k c i d j g h. apart n k c i d j (came (line_latch n k) c i g) (came (line_latch n k) d j h)

    numbered : (n c i : ℕ) → ((c ≡ b) × (i ≡ signal) × (line_latch n 0 ≡ latch)) ⊎ (signal_of t c i ≡ Some (line_latch n 0)) → ⊥
    numbered n c i (inl e) = let same = latch_same n l 0 (suc m) e.2 in omega (arith, same.1)
    numbered n c i (inr h) = here.stands.latches.numbered n c i h

    numbered_now : LatchesNumbered u
    numbered_now = λ n c i g. numbered n c i (came (line_latch n 0) c i g)

    pub latched_stands : StandsFor (record moved { lines = slice_set s.lines l (wire_after_intake how.Latched w) }) u
    unfolding wire_after_intake
    latched_stands = record {
      blocks = record { parts = blocks_now.parts; times = blocks_now.times; outputs = blocks_now.outputs; lives = blocks_now.lives };
      channels = here.stands.channels;
      lines = lines_set moved (with_block t b latched_block) l line_now (wire_after_intake how.Latched w)
          (record { bindings = here.stands.lines.bindings; offers = here.stands.lines.offers; pending = here.stands.lines.pending; counts = here.stands.lines.counts })
          bound offer (sym (none_pending_after 1 old.fates m latched here.fate refl one_pending)) (ap (λ (c : Counts). record c { given = c.given + 1 }) counts ∙ sym (counts_latched old.fates m here.fate));
      latches = record { agree = agree_now; differ = differ_now; numbered = numbered_now };
    }

  -- a signal that has a latch keeps it
  module _ (k : Latch) (taken : latch_at x.control.parts.signals signal ≡ Some k) where
    abbrev line_joined : Line
    line_joined = record old { fates = slice_set old.fates m joined }

    same_blocks : slice_set t.blocks b latched_block ≡ t.blocks
    unfolding signals_after
    same_blocks =
        ap (λ l. slice_set t.blocks b (record y { parts = record y.parts { signals = l } })) (occupied x.control.parts.signals signal latch k taken)
        ∙ slice_set-same t.blocks b y seen

    latches_joined : LatchesMatch (record t { lines = slice_set t.lines l line_joined })
    latches_joined = record {
      agree = λ n i. (λ g. (here.stands.latches.agree n i).0 (joined_back t.lines l m old here.line_at n i g), λ g. joined_on t.lines l m old here.line_at here.fate n i ((here.stands.latches.agree n i).1 g));
      differ = here.stands.latches.differ;
      numbered = here.stands.latches.numbered;
    }

    pub joined_stands : StandsFor (record moved { lines = slice_set s.lines l (wire_after_intake how.Coalesced w) }) (record (with_block t b latched_block) { lines = slice_set t.lines l (record old { fates = slice_set old.fates m joined }) })
    unfolding wire_after_intake
    joined_stands = record {
      blocks = record { parts = blocks_now.parts; times = blocks_now.times; outputs = blocks_now.outputs; lives = blocks_now.lives };
      channels = here.stands.channels;
      lines = lines_set moved (with_block t b latched_block) l line_joined (wire_after_intake how.Coalesced w)
          (record { bindings = here.stands.lines.bindings; offers = here.stands.lines.offers; pending = here.stands.lines.pending; counts = here.stands.lines.counts })
          bound offer (sym (none_pending_after 1 old.fates m joined here.fate refl one_pending)) (ap (λ (c : Counts). record c { joined = c.joined + 1 }) counts ∙ sym (counts_joined old.fates m here.fate));
      latches = subst (λ bs. LatchesMatch (record t { blocks = bs; lines = slice_set t.lines l line_joined })) (sym same_blocks) latches_joined;
    }
