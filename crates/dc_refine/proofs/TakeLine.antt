-- A latch of a line is taken: its fate is delivered.
use Rattle.std.proofs.Common.{◌≡◌, ℕ, zero, suc, ◌+◌, List, [], ◌∷◌, length, Bool, true, false, Option, Some, None, refl, sym, ap, ◌∙◌, subst, map, arith}
use Rattle.std.specs.Prelude.{slice_get, slice_set, if◌then◌else◌, filter, count_by}
use Rattle.std.proofs.lemmas.List.{map-set, length-set}
use Rattle.std.proofs.lemmas.List.Sums.{length-filter}
use Rattle.dc_base.specs.declared.interrupts.Latch.{Latch}
use Rattle.dc_base.specs.declared.interrupts.Source.TheVariants as source
use Rattle.dc_base.specs.declared.numbers.LineNo.{LineNo}
use Rattle.dc_base.specs.Words.{bind}
use Rattle.dc_base.specs.Ports.{latch_at}
use Rattle.dc_base.specs.Lines.{Line, Fate, stray, pending, merged, latched, joined, delivered, is_pending, pending_from, pending_in, line_latch}
use Rattle.dc_base.specs.Parts.{Parts}
use Rattle.dc_base.specs.Blocks.{Blocks}
use Rattle.dc_base.specs.Blocks as blocks
use Rattle.dc_base.specs.ControlBlocks.{ControlBlock}
use Rattle.dc_base.specs.States.{State, Block, with_control, time_of}
use Rattle.dc_base.specs.Shown.{life_of, is_stray, is_merged, is_latched, is_joined, is_delivered}
use Rattle.dc_base.specs.StandsFor.{StandsFor, BlocksAgree, LatchesAgree, LatchesDiffer, signal_of, fate_at, counts_of}
use Rattle.dc_refine.proofs.Elements.{slice_set-same, slice_get-set_same}
use Rattle.dc_refine.proofs.Leads.{with_block}
use Rattle.dc_refine.proofs.Stands.{plain, blocks_set, block_seen, set_signals, set_signals_back}

-- the control block goes on with these parts, with as many lives
pub record GoesOn (x : ControlBlock) (p : Parts) (new : ControlBlock) : Type 0 where
  pub parts : new.parts ≡ p
  pub lives : map life_of new.states ≡ map life_of x.states

-- signals after one is emptied
pub still_there : (signals : List (Option Latch)) (i : ℕ) (l : Latch) (j : ℕ) → latch_at (slice_set signals i None) j ≡ Some l → latch_at signals j ≡ Some l
still_there [] i l j g = cc
still_there (o ∷ signals) zero l zero g = cc
still_there (o ∷ signals) zero l (suc j) g = g
still_there (o ∷ signals) (suc i) l zero g = g
still_there (o ∷ signals) (suc i) l (suc j) g = still_there signals i l j g

others_stay : (signals : List (Option Latch)) (i : ℕ) (k l : Latch) → latch_at signals i ≡ Some k → (l ≡ k → ⊥) → (j : ℕ) → latch_at signals j ≡ Some l → latch_at (slice_set signals i None) j ≡ Some l
others_stay [] i k l h apart j g = cc
others_stay (o ∷ signals) zero k l h apart zero g = absurd (apart (let e : l ≡ k = cc in e))
others_stay (o ∷ signals) zero k l h apart (suc j) g = g
others_stay (o ∷ signals) (suc i) k l h apart zero g = g
others_stay (o ∷ signals) (suc i) k l h apart (suc j) g = others_stay signals i k l h apart j g

now_empty : (signals : List (Option Latch)) (i : ℕ) (l : Latch) → latch_at (slice_set signals i None) i ≡ Some l → ⊥
now_empty [] i l g = cc
now_empty (o ∷ signals) zero l g = cc
now_empty (o ∷ signals) (suc i) l g = now_empty signals i l g

-- fates after one is delivered
fate_back : (fs : List Fate) (n k : ℕ) → slice_get (slice_set fs n delivered) k ≡ Some latched → (slice_get fs k ≡ Some latched) × (k ≡ n → ⊥)
fate_back [] n k g = cc
fate_back (f ∷ fs) zero zero g = cc
fate_back (f ∷ fs) zero (suc k) g = (g, λ e. omega (arith, e))
fate_back (f ∷ fs) (suc n) zero g = (g, λ e. omega (arith, e))
fate_back (f ∷ fs) (suc n) (suc k) g = let r = fate_back fs n k g in (r.0, λ e. r.1 (omega (arith, e)))

fate_on : (fs : List Fate) (n k : ℕ) → slice_get fs k ≡ Some latched → (k ≡ n → ⊥) → slice_get (slice_set fs n delivered) k ≡ Some latched
fate_on [] n k g apart = g
fate_on (f ∷ fs) zero zero g apart = absurd (apart refl)
fate_on (f ∷ fs) zero (suc k) g apart = g
fate_on (f ∷ fs) (suc n) zero g apart = g
fate_on (f ∷ fs) (suc n) (suc k) g apart = fate_on fs n k g (λ e. apart (ap suc e))

abbrev fate_in : List Line → ℕ → ℕ → Option Fate
fate_in ls l n = bind (slice_get ls l) (λ (x : Line). slice_get x.fates n)

line_back : (ls : List Line) (m n : ℕ) (old : Line) → slice_get ls m ≡ Some old → (l k : ℕ) → fate_in (slice_set ls m (record old { fates = slice_set old.fates n delivered })) l k ≡ Some latched → (fate_in ls l k ≡ Some latched) × (l ≡ m → k ≡ n → ⊥)
line_back [] m n old h l k g = cc
line_back (x ∷ ls) zero n old h zero k g =
    let e : x ≡ old = cc in let r = fate_back old.fates n k g in (ap (λ (v : Line). slice_get v.fates k) e ∙ r.0, λ f. r.1)
line_back (x ∷ ls) zero n old h (suc l) k g = (g, λ e f. omega (arith, e))
line_back (x ∷ ls) (suc m) n old h zero k g = (g, λ e f. omega (arith, e))
line_back (x ∷ ls) (suc m) n old h (suc l) k g = let r = line_back ls m n old h l k g in (r.0, λ e f. r.1 (omega (arith, e)) f)

line_on : (ls : List Line) (m n : ℕ) (old : Line) → slice_get ls m ≡ Some old → (l k : ℕ) → fate_in ls l k ≡ Some latched → (l ≡ m → k ≡ n → ⊥) → fate_in (slice_set ls m (record old { fates = slice_set old.fates n delivered })) l k ≡ Some latched
line_on [] m n old h l k g apart = g
line_on (x ∷ ls) zero n old h zero k g apart = let e : x ≡ old = cc in fate_on old.fates n k (ap (λ (v : Line). slice_get v.fates k) (sym e) ∙ g) (apart refl)
line_on (x ∷ ls) zero n old h (suc l) k g apart = g
line_on (x ∷ ls) (suc m) n old h zero k g apart = g
line_on (x ∷ ls) (suc m) n old h (suc l) k g apart = line_on ls m n old h l k g (λ e f. apart (ap suc e) f)

-- counts of fates
kept_alike : (p : Fate → Bool) (fs : List Fate) (n : ℕ) (old new : Fate) → slice_get fs n ≡ Some old → p new ≡ p old → length (filter p (slice_set fs n new)) ≡ length (filter p fs)
kept_alike p [] n old new h e = refl
kept_alike p (f ∷ fs) zero old new h e =
    let g : f ≡ old = cc in by_test (p new) (p f) (e ∙ ap p (sym g))
  where
    by_test : (t u : Bool) → t ≡ u → length (if t then new ∷ filter p fs else filter p fs) ≡ length (if u then f ∷ filter p fs else filter p fs)
    by_test true true k = refl
    by_test false false k = refl
    by_test true false k = cc
    by_test false true k = cc
kept_alike p (f ∷ fs) (suc n) old new h e = by_first (p f) (kept_alike p fs n old new h e)
  where
    by_first : (t : Bool) → length (filter p (slice_set fs n new)) ≡ length (filter p fs) → length (if t then f ∷ filter p (slice_set fs n new) else filter p (slice_set fs n new)) ≡ length (if t then f ∷ filter p fs else filter p fs)
    by_first true k = ap suc k
    by_first false k = k

pub count_alike : (p : Fate → Bool) (fs : List Fate) (n : ℕ) (old new : Fate) → slice_get fs n ≡ Some old → p new ≡ p old → count_by p (slice_set fs n new) ≡ count_by p fs
count_alike p fs n old new h e = sym (length-filter p (slice_set fs n new)) ∙ kept_alike p fs n old new h e ∙ length-filter p fs

given_kept : (fs : List Fate) (n : ℕ) → slice_get fs n ≡ Some latched →
    length (filter is_latched (slice_set fs n delivered)) + length (filter is_delivered (slice_set fs n delivered)) ≡ length (filter is_latched fs) + length (filter is_delivered fs)
given_kept [] n h = cc
given_kept (stray ∷ fs) zero h = cc
given_kept (pending ∷ fs) zero h = cc
given_kept (merged ∷ fs) zero h = cc
given_kept (latched ∷ fs) zero h = omega arith
given_kept (joined ∷ fs) zero h = cc
given_kept (delivered ∷ fs) zero h = cc
given_kept (stray ∷ fs) (suc n) h = given_kept fs n h
given_kept (pending ∷ fs) (suc n) h = given_kept fs n h
given_kept (merged ∷ fs) (suc n) h = given_kept fs n h
given_kept (latched ∷ fs) (suc n) h = omega (arith, given_kept fs n h)
given_kept (joined ∷ fs) (suc n) h = given_kept fs n h
given_kept (delivered ∷ fs) (suc n) h = omega (arith, given_kept fs n h)

given_same : (fs : List Fate) (n : ℕ) → slice_get fs n ≡ Some latched →
    count_by is_latched (slice_set fs n delivered) + count_by is_delivered (slice_set fs n delivered) ≡ count_by is_latched fs + count_by is_delivered fs
given_same fs n h =
    let a = length-filter is_latched (slice_set fs n delivered) in let b = length-filter is_delivered (slice_set fs n delivered) in
    let c = length-filter is_latched fs in let d = length-filter is_delivered fs in
    ap (λ v. v + count_by is_delivered (slice_set fs n delivered)) (sym a) ∙ ap (λ v. length (filter is_latched (slice_set fs n delivered)) + v) (sym b) ∙ given_kept fs n h
    ∙ ap (λ v. v + length (filter is_delivered fs)) c ∙ ap (λ v. count_by is_latched fs + v) d

counts_same : (fs : List Fate) (n : ℕ) → slice_get fs n ≡ Some latched → counts_of (slice_set fs n delivered) ≡ counts_of fs
counts_same fs n h =
    ap (λ v. record { raised = v; stray = count_by is_stray (slice_set fs n delivered); merged = count_by is_merged (slice_set fs n delivered); given = count_by is_latched (slice_set fs n delivered) + count_by is_delivered (slice_set fs n delivered); joined = count_by is_joined (slice_set fs n delivered) }) (length-set fs n delivered)
    ∙ ap (λ v. record { raised = length fs; stray = v; merged = count_by is_merged (slice_set fs n delivered); given = count_by is_latched (slice_set fs n delivered) + count_by is_delivered (slice_set fs n delivered); joined = count_by is_joined (slice_set fs n delivered) }) (count_alike is_stray fs n latched delivered h refl)
    ∙ ap (λ v. record { raised = length fs; stray = count_by is_stray fs; merged = v; given = count_by is_latched (slice_set fs n delivered) + count_by is_delivered (slice_set fs n delivered); joined = count_by is_joined (slice_set fs n delivered) }) (count_alike is_merged fs n latched delivered h refl)
    ∙ ap (λ v. record { raised = length fs; stray = count_by is_stray fs; merged = count_by is_merged fs; given = v; joined = count_by is_joined (slice_set fs n delivered) }) (given_same fs n h)
    ∙ ap (λ v. record { raised = length fs; stray = count_by is_stray fs; merged = count_by is_merged fs; given = count_by is_latched fs + count_by is_delivered fs; joined = v }) (count_alike is_joined fs n latched delivered h refl)

pending_same : (k : ℕ) (fs : List Fate) (n : ℕ) → slice_get fs n ≡ Some latched → pending_from k (slice_set fs n delivered) ≡ pending_from k fs
pending_same k [] n h = refl
pending_same k (f ∷ fs) zero h = let e : f ≡ latched = cc in ap (λ (f : Fate). if is_pending f then Some k else pending_from (k + 1) fs) (sym e)
pending_same k (f ∷ fs) (suc n) h = ap (λ o. if is_pending f then Some k else o) (pending_same (k + 1) fs n h)

latch_parts : (l m k n : ℕ) → line_latch l (k + 1) ≡ line_latch m (n + 1) → (l ≡ m) × (k ≡ n)
latch_parts l m k n e =
    let v : k + 1 ≡ n + 1 = ap (λ (h : Latch). h.value) e in
    let o : source.Line (record { 0 = l }) ≡ source.Line (record { 0 = m }) = ap (λ (h : Latch). h.source) e in
    let r : ◌≡◌ {A = LineNo} (record { 0 = l }) (record { 0 = m }) = cc in
    (ap (λ (h : LineNo). h.0) r, omega (arith, v))

module _ (s : State) (t : Blocks) (stands : StandsFor s t) (b : ℕ) (x : Block) (ws : List ℕ) (block_at : slice_get s.blocks b ≡ Some x) (console_at : slice_get s.consoles b ≡ Some ws)
    (m n i : ℕ) (p : Parts) (held : latch_at x.control.parts.signals i ≡ Some (line_latch m (n + 1))) (emptied : p.signals ≡ slice_set x.control.parts.signals i None) where
  abbrev y : blocks.Block
  y = plain (time_of s.cores x.whereabouts) ws x.control

  there : slice_get t.blocks b ≡ Some y
  there = block_seen s t stands b x ws block_at console_at

  held_there : signal_of t b i ≡ Some (line_latch m (n + 1))
  held_there = ap (λ o. bind o (λ (x : blocks.Block). latch_at x.parts.signals i)) there ∙ held

  was_latched : fate_at t m n ≡ Some latched
  was_latched = (stands.latches.agree m n).1 (b, i, held_there)

  module _ (old : Line) (line_at : slice_get t.lines m ≡ Some old) where
    fate_there : slice_get old.fates n ≡ Some latched
    fate_there = sym (ap (λ o. bind o (λ (x : Line). slice_get x.fates n)) line_at) ∙ was_latched

    abbrev new_line : Line
    new_line = record old { fates = slice_set old.fates n delivered }

    abbrev u : Blocks
    u = record (with_block t b (record y { parts = p })) { lines = slice_set t.lines m (record old { fates = slice_set old.fates n delivered }) }

    back : (l : Latch) (c j : ℕ) → signal_of u c j ≡ Some l → signal_of t c j ≡ Some l
    back l c j g = set_signals_back t.blocks b y (record y { parts = p }) j l there (λ h. still_there x.control.parts.signals i l j (ap (λ v. latch_at v j) (sym emptied) ∙ h)) c g

    on : (l : Latch) → (l ≡ line_latch m (n + 1) → ⊥) → (c j : ℕ) → signal_of t c j ≡ Some l → signal_of u c j ≡ Some l
    on l apart c j g = set_signals t.blocks b y (record y { parts = p }) j l there (λ h. ap (λ v. latch_at v j) emptied ∙ others_stay x.control.parts.signals i (line_latch m (n + 1)) l held apart j h) c g

    gone : (c j : ℕ) → signal_of u c j ≡ Some (line_latch m (n + 1)) → ⊥
    gone c j g =
        let same = stands.latches.differ m (n + 1) c j b i (back (line_latch m (n + 1)) c j g) held_there in
        let here : signal_of u b i ≡ Some (line_latch m (n + 1)) = ap (λ c. signal_of u c i) (sym same.0) ∙ ap (λ j. signal_of u c j) (sym same.1) ∙ g in
        let it : slice_get u.blocks b ≡ Some (record y { parts = p }) = slice_get-set_same t.blocks b y (record y { parts = p }) there in
        now_empty x.control.parts.signals i (line_latch m (n + 1)) (ap (λ v. latch_at v i) (sym emptied) ∙ sym (ap (λ o. bind o (λ (x : blocks.Block). latch_at x.parts.signals i)) it) ∙ here)

    latches_now : LatchesAgree u
    latches_now = λ l k. (
      λ g. let r = line_back t.lines m n old line_at l k g in
          let h = (stands.latches.agree l k).0 r.0 in
          (h.0, h.1, on (line_latch l (k + 1)) (λ e. let q = latch_parts l m k n e in r.1 q.0 q.1) h.0 h.1 h.2),
      λ g. line_on t.lines m n old line_at l k ((stands.latches.agree l k).1 (g.0, g.1, back (line_latch l (k + 1)) g.0 g.1 g.2))
          (λ e f. gone g.0 g.1 (g.2 ∙ ap (λ v. Some (line_latch v (k + 1))) e ∙ ap (λ v. Some (line_latch m (v + 1))) f)),
    )

    latches_apart : LatchesDiffer u
    latches_apart = λ l k c j d h f g. stands.latches.differ l k c j d h (back (line_latch l k) c j f) (back (line_latch l k) d h g)

    module _ (new : ControlBlock) (goes_on : GoesOn x.control p new) where
      same_plain : plain (time_of s.cores x.whereabouts) ws new ≡ record y { parts = p }
      same_plain =
          ap (λ q. record { parts = q; lives = map life_of new.states; clock = time_of s.cores x.whereabouts; output = ws }) goes_on.parts
          ∙ ap (λ v. record { parts = p; lives = v; clock = time_of s.cores x.whereabouts; output = ws }) goes_on.lives

      blocks_stand : BlocksAgree (record s { blocks = slice_set s.blocks b (with_control new x) }) (with_block t b (record y { parts = p }))
      blocks_stand =
          subst (λ cs. BlocksAgree (record s { blocks = slice_set s.blocks b (with_control new x); consoles = cs }) (with_block t b (record y { parts = p }))) (slice_set-same s.consoles b ws console_at)
          (subst (λ z. BlocksAgree (record s { blocks = slice_set s.blocks b (with_control new x); consoles = slice_set s.consoles b ws }) (with_block t b z)) same_plain (blocks_set s t stands b x ws block_at console_at (with_control new x) ws))

      set_alike : {A : Type 0} → (f : Line → A) → f new_line ≡ f old → map f (slice_set t.lines m new_line) ≡ map f t.lines
      set_alike f e = map-set f t.lines m new_line ∙ ap (λ v. slice_set (map f t.lines) m v) e ∙ sym (map-set f t.lines m old) ∙ ap (map f) (slice_set-same t.lines m old line_at)

      pub taken_stands : StandsFor (record s { blocks = slice_set s.blocks b (with_control new x) }) u
      taken_stands = record {
        blocks = record { parts = blocks_stand.parts; times = blocks_stand.times; outputs = blocks_stand.outputs; lives = blocks_stand.lives };
        channels = stands.channels;
        lines = record {
          bindings = stands.lines.bindings ∙ sym (set_alike (λ (x : Line). x.bound) refl);
          offers = stands.lines.offers ∙ sym (set_alike (λ (x : Line). x.offer) refl);
          pending = stands.lines.pending ∙ sym (set_alike (λ (x : Line). pending_in x.fates) (pending_same 1 old.fates n fate_there));
          counts = stands.lines.counts ∙ sym (set_alike (λ (x : Line). counts_of x.fates) (counts_same old.fates n fate_there));
        };
        latches = record { agree = latches_now; differ = latches_apart; numbered = λ l c j g. stands.latches.numbered l c j (back (line_latch l 0) c j g) };
      }
