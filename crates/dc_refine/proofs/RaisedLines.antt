-- A raise: what it makes of a line in both machines.
use Rattle.std.proofs.Common.{◌≡◌, ℕ, zero, suc, ◌+◌, List, [], ◌∷◌, ◌++◌, length, Bool, true, false, cond, Option, Some, None, refl, sym, ap, ◌∙◌, arith, length-append}
use Rattle.std.specs.Prelude.{slice_get, slice_set, if◌then◌else◌, count_by}
use Rattle.std.proofs.lemmas.List.Sums.{sum_by-append}
use Rattle.dc_base.specs.Words.{bind}
use Rattle.dc_base.specs.Lines.{Line, Wire, Counts, Fate, stray, pending, merged, latched, is_pending, pending_from, pending_in, fate_of, after_raise, wire_after, wire_after_raise, how_raised}
use Rattle.dc_base.specs.Blocks.{Blocks, raise}
use Rattle.dc_base.specs.States.{State}
use Rattle.dc_base.specs.Shown.{is_stray, is_merged, is_latched, is_joined, is_delivered}
use Rattle.dc_base.specs.StandsFor.{StandsFor, LatchesAgree, counts_of}
use Rattle.dc_base.specs.BlockSteps.{raise_in, blocks_step}
use Rattle.dc_base.specs.ScriptColumns.{raise_agrees}
use Rattle.dc_base.specs.Same.{is_same_raised}
use Rattle.dc_base.proofs.SameLaws.{is_same_raised-refl}
use Rattle.dc_refine.proofs.Elements.{same_at}
use Rattle.dc_refine.proofs.Beside.{lines_set}
use Rattle.dc_refine.proofs.Leads.{Leads, leads_one}

pending_push : (k : ℕ) (fs : List Fate) (f : Fate) → is_pending f ≡ false → pending_from k (fs ++ f ∷ []) ≡ pending_from k fs
pending_push k [] f h = ap (λ t. if t then Some k else None) h
pending_push k (g ∷ fs) f h = ap (λ o. if is_pending g then Some k else o) (pending_push (k + 1) fs f h)

first_pending : (k : ℕ) (fs : List Fate) → pending_from k fs ≡ None → pending_from k (fs ++ pending ∷ []) ≡ Some (length fs + k)
first_pending k [] h = ap Some (let e : k ≡ 0 + k = omega arith in e)
first_pending k (g ∷ fs) h = by_test (is_pending g) h (λ e. first_pending (k + 1) fs e)
  where
    by_test : (t : Bool) → (if t then Some k else pending_from (k + 1) fs) ≡ None → (pending_from (k + 1) fs ≡ None → pending_from (k + 1) (fs ++ pending ∷ []) ≡ Some (length fs + (k + 1))) →
        (if t then Some k else pending_from (k + 1) (fs ++ pending ∷ [])) ≡ Some (suc (length fs) + k)
    by_test true e more = cc
    by_test false e more = more e ∙ ap Some (let n : length fs + (k + 1) ≡ suc (length fs) + k = omega arith in n)

count_push : (p : Fate → Bool) (fs : List Fate) (f : Fate) → count_by p (fs ++ f ∷ []) ≡ count_by p fs + count_by p (f ∷ [])
count_push p fs f = sum_by-append (λ x. cond (p x) 1 0) fs (f ∷ [])

-- what is counted of one fate more
counts_push : (fs : List Fate) (f : Fate) → counts_of (fs ++ f ∷ []) ≡ record {
  raised = length fs + 1;
  stray = count_by is_stray fs + count_by is_stray (f ∷ []);
  merged = count_by is_merged fs + count_by is_merged (f ∷ []);
  given = (count_by is_latched fs + count_by is_latched (f ∷ [])) + (count_by is_delivered fs + count_by is_delivered (f ∷ []));
  joined = count_by is_joined fs + count_by is_joined (f ∷ []);
}
counts_push fs f =
    let r : length (fs ++ f ∷ []) ≡ length fs + 1 = length-append fs (f ∷ []) in
    let a = count_push is_stray fs f in let b = count_push is_merged fs f in let c = count_push is_latched fs f in let d = count_push is_delivered fs f in let e = count_push is_joined fs f in cc

-- one raise more is counted alike
raised_counts : (w : Wire) (fs : List Fate) → w.counts ≡ counts_of fs → (b : Option (ℕ × ℕ)) (n : Option ℕ) → (wire_after w b n).counts ≡ counts_of (fs ++ fate_of b n ∷ [])
raised_counts w fs e None n =
    ap (λ (c : Counts). record c { raised = c.raised + 1; stray = c.stray + 1 }) e
    ∙ (let a : count_by is_merged fs ≡ count_by is_merged fs + 0 = omega arith in let b : count_by is_joined fs ≡ count_by is_joined fs + 0 = omega arith in
    let c : count_by is_latched fs + count_by is_delivered fs ≡ (count_by is_latched fs + 0) + (count_by is_delivered fs + 0) = omega arith in cc)
    ∙ sym (counts_push fs stray)
raised_counts w fs e (Some to) None =
    ap (λ (c : Counts). record c { raised = c.raised + 1 }) e
    ∙ (let s : count_by is_stray fs ≡ count_by is_stray fs + 0 = omega arith in let a : count_by is_merged fs ≡ count_by is_merged fs + 0 = omega arith in let b : count_by is_joined fs ≡ count_by is_joined fs + 0 = omega arith in
    let c : count_by is_latched fs + count_by is_delivered fs ≡ (count_by is_latched fs + 0) + (count_by is_delivered fs + 0) = omega arith in cc)
    ∙ sym (counts_push fs pending)
raised_counts w fs e (Some to) (Some n) =
    ap (λ (c : Counts). record c { raised = c.raised + 1; merged = c.merged + 1 }) e
    ∙ (let s : count_by is_stray fs ≡ count_by is_stray fs + 0 = omega arith in let b : count_by is_joined fs ≡ count_by is_joined fs + 0 = omega arith in
    let c : count_by is_latched fs + count_by is_delivered fs ≡ (count_by is_latched fs + 0) + (count_by is_delivered fs + 0) = omega arith in cc)
    ∙ sym (counts_push fs merged)

-- the pending number is that of the first pending fate
raised_pending : (w : Wire) (fs : List Fate) → w.counts.raised ≡ length fs → (b : Option (ℕ × ℕ)) (n : Option ℕ) → w.pending ≡ n → pending_from 1 fs ≡ n → (wire_after w b n).pending ≡ pending_from 1 (fs ++ fate_of b n ∷ [])
raised_pending w fs e None n p q = p ∙ sym q ∙ sym (pending_push 1 fs stray refl)
raised_pending w fs e (Some to) None p q = ap (λ k. Some (k + 1)) e ∙ sym (first_pending 1 fs q)
raised_pending w fs e (Some to) (Some n) p q = p ∙ sym q ∙ sym (pending_push 1 fs merged refl)

bound_kept : (w : Wire) (b : Option (ℕ × ℕ)) (n : Option ℕ) → (wire_after w b n).bound ≡ w.bound
bound_kept w None n = refl
bound_kept w (Some to) None = refl
bound_kept w (Some to) (Some n) = refl

offer_kept : (w : Wire) (b : Option (ℕ × ℕ)) (n : Option ℕ) → (wire_after w b n).offer ≡ w.offer
offer_kept w None n = refl
offer_kept w (Some to) None = refl
offer_kept w (Some to) (Some n) = refl

-- a new fate is not latched
fate_not : (b : Option (ℕ × ℕ)) (n : Option ℕ) → fate_of b n ≡ latched → ⊥
fate_not None n e = cc
fate_not (Some to) None e = cc
fate_not (Some to) (Some n) e = cc

push_on : (fs : List Fate) (f : Fate) (k : ℕ) → slice_get fs k ≡ Some latched → slice_get (fs ++ f ∷ []) k ≡ Some latched
push_on [] f k g = cc
push_on (x ∷ fs) f zero g = g
push_on (x ∷ fs) f (suc k) g = push_on fs f k g

push_back : (fs : List Fate) (f : Fate) (k : ℕ) → (f ≡ latched → ⊥) → slice_get (fs ++ f ∷ []) k ≡ Some latched → slice_get fs k ≡ Some latched
push_back [] f zero apart g = absurd (apart (let e : f ≡ latched = cc in e))
push_back [] f (suc k) apart g = cc
push_back (x ∷ fs) f zero apart g = g
push_back (x ∷ fs) f (suc k) apart g = push_back fs f k apart g

abbrev fate_in : List Line → ℕ → ℕ → Option Fate
fate_in ls l n = bind (slice_get ls l) (λ (x : Line). slice_get x.fates n)

lines_on : (ls : List Line) (m : ℕ) (old : Line) (f : Fate) → slice_get ls m ≡ Some old → (l k : ℕ) → fate_in ls l k ≡ Some latched → fate_in (slice_set ls m (record old { fates = old.fates ++ f ∷ [] })) l k ≡ Some latched
lines_on [] m old f h l k g = g
lines_on (x ∷ ls) zero old f h zero k g = let e : x ≡ old = cc in push_on old.fates f k (ap (λ (v : Line). slice_get v.fates k) (sym e) ∙ g)
lines_on (x ∷ ls) zero old f h (suc l) k g = g
lines_on (x ∷ ls) (suc m) old f h zero k g = g
lines_on (x ∷ ls) (suc m) old f h (suc l) k g = lines_on ls m old f h l k g

lines_back : (ls : List Line) (m : ℕ) (old : Line) (f : Fate) → (f ≡ latched → ⊥) → slice_get ls m ≡ Some old → (l k : ℕ) → fate_in (slice_set ls m (record old { fates = old.fates ++ f ∷ [] })) l k ≡ Some latched → fate_in ls l k ≡ Some latched
lines_back [] m old f apart h l k g = g
lines_back (x ∷ ls) zero old f apart h zero k g = let e : x ≡ old = cc in ap (λ (v : Line). slice_get v.fates k) e ∙ push_back old.fates f k apart g
lines_back (x ∷ ls) zero old f apart h (suc l) k g = g
lines_back (x ∷ ls) (suc m) old f apart h zero k g = g
lines_back (x ∷ ls) (suc m) old f apart h (suc l) k g = lines_back ls m old f apart h l k g

module _ (s : State) (t : Blocks) (stands : StandsFor s t) (l : ℕ) (w : Wire) (old : Line) (wire_at : slice_get s.lines l ≡ Some w) (line_at : slice_get t.lines l ≡ Some old) where
  bound : w.bound ≡ old.bound
  bound = same_at (λ (w : Wire). w.bound) (λ (x : Line). x.bound) s.lines t.lines l w old stands.lines.bindings wire_at line_at

  offer : w.offer ≡ old.offer
  offer = same_at (λ (w : Wire). w.offer) (λ (x : Line). x.offer) s.lines t.lines l w old stands.lines.offers wire_at line_at

  now_pending : w.pending ≡ pending_in old.fates
  now_pending = same_at (λ (w : Wire). w.pending) (λ (x : Line). pending_in x.fates) s.lines t.lines l w old stands.lines.pending wire_at line_at

  counts : w.counts ≡ counts_of old.fates
  counts = same_at (λ (w : Wire). w.counts) (λ (x : Line). counts_of x.fates) s.lines t.lines l w old stands.lines.counts wire_at line_at

  abbrev f : Fate
  f = fate_of w.bound w.pending

  abbrev new : Line
  new = record old { fates = old.fates ++ fate_of w.bound w.pending ∷ [] }

  abbrev u : Blocks
  u = record t { lines = slice_set t.lines l (record old { fates = old.fates ++ fate_of w.bound w.pending ∷ [] }) }

  -- the event of the raise
  pub leads_raise : Leads t (raise l ∷ []) u
  unfolding blocks_step raise_in after_raise
  leads_raise = leads_one t u (raise l)
      (ap (λ o. bind o (λ x. Some (record t { lines = slice_set t.lines l (record x { fates = x.fates ++ fate_of x.bound (pending_in x.fates) ∷ [] }) }))) line_at
      ∙ ap (λ b. Some (record t { lines = slice_set t.lines l (record old { fates = old.fates ++ fate_of b (pending_in old.fates) ∷ [] }) })) (sym bound)
      ∙ ap (λ p. Some (record t { lines = slice_set t.lines l (record old { fates = old.fates ++ fate_of w.bound p ∷ [] }) })) (sym now_pending))

  latches_now : LatchesAgree u
  latches_now = λ m n. (
    λ g. (stands.latches.agree m n).0 (lines_back t.lines l old f (fate_not w.bound w.pending) line_at m n g),
    λ g. lines_on t.lines l old f line_at m n ((stands.latches.agree m n).1 g),
  )

  -- the line after the raise stands for the line after it
  pub raise_stands : StandsFor (record s { lines = slice_set s.lines l (wire_after_raise w) }) u
  unfolding wire_after_raise
  raise_stands =
      let v : Wire = wire_after w w.bound w.pending in
      record {
        blocks = record { parts = stands.blocks.parts; times = stands.blocks.times; outputs = stands.blocks.outputs; lives = stands.blocks.lives };
        channels = stands.channels;
        lines = lines_set s t l new v stands.lines (bound_kept w w.bound w.pending ∙ bound) (offer_kept w w.bound w.pending ∙ offer)
            (raised_pending w old.fates (ap (λ (c : Counts). c.raised) counts) w.bound w.pending refl (sym now_pending)) (raised_counts w old.fates counts w.bound w.pending);
        latches = record { agree = latches_now; differ = stands.latches.differ; numbered = stands.latches.numbered };
      }

  -- the entry's column
  pub raise_column : raise_agrees (how_raised (w.counts.raised + 1) w.bound w.pending) (slice_get t.lines l) ≡ true
  raise_column =
      ap (raise_agrees (how_raised (w.counts.raised + 1) w.bound w.pending)) line_at
      ∙ ap (λ b. is_same_raised (how_raised (w.counts.raised + 1) w.bound w.pending) (how_raised (length old.fates + 1) b (pending_in old.fates))) (sym bound)
      ∙ ap (λ p. is_same_raised (how_raised (w.counts.raised + 1) w.bound w.pending) (how_raised (length old.fates + 1) w.bound p)) (sym now_pending)
      ∙ ap (λ n. is_same_raised (how_raised (w.counts.raised + 1) w.bound w.pending) (how_raised (n + 1) w.bound w.pending)) (sym (ap (λ (c : Counts). c.raised) counts))
      ∙ is_same_raised-refl (how_raised (w.counts.raised + 1) w.bound w.pending)
