-- Every deadline stays near its block's time.
use Rattle.std.proofs.Common.{◌≡◌, ℕ, zero, suc, ◌+◌, ◌<◌, ◌^◌, List, [], ◌∷◌, ◌++◌, Bool, true, false, Option, Some, refl, sym, ap, ◌∙◌, subst, arith}
use Rattle.std.specs.Prelude.{slice_get, slice_set, ℤ, not, filter, if◌then◌else◌, ◌==◌}
use Rattle.dc_base.specs.declared.entries.Entry.{Entry}
use Rattle.dc_base.specs.declared.interrupts.Latch.{Latch}
use Rattle.dc_base.specs.declared.interrupts.Timer.{Timer}
use Rattle.dc_base.specs.declared.kernels.Version.{Version}
use Rattle.dc_base.specs.declared.kernels.Version.TheVariants as version
use Rattle.dc_base.specs.Bounded.{IsClocked, DeadlinesWithin, IsSettled}
use Rattle.dc_base.specs.Changes.{Change, apply}
use Rattle.dc_base.specs.ControlBlocks.{ControlBlock}
use Rattle.dc_base.specs.Effects.{Context, reg, goes, act}
use Rattle.dc_base.specs.Firing.{wake, latch_in}
use Rattle.dc_base.specs.KeptByBlocks.{AllWords, AreWords}
use Rattle.dc_base.specs.Lines.{line_latch}
use Rattle.dc_base.specs.Placed.{IsPlaced, IsOn}
use Rattle.dc_base.specs.Progress.{PostsFit}
use Rattle.dc_base.specs.Slices.{due_after}
use Rattle.dc_base.specs.States.{State, Core, Block, on, time_on, time_of, clock_of}
use Rattle.dc_base.specs.Words.{Each}
use Rattle.dc_sound.proofs.EntryKinds.{HasTurn, IsSlice, IsSliceNone, got_by, sliced_of, after_timers, Kind}
use Rattle.dc_sound.proofs.ControlRules.{ControlLaws, controls_kept}
use Rattle.dc_block_sound.proofs.Elements.{same_some}
use Rattle.dc_block_sound.proofs.PlainMoves.{Going, one_set, two_set, jumped, passed, stored, Acts, acts, index_word}
use Rattle.dc_sound.proofs.Rules.{each-set}
use Rattle.dc_sound.proofs.TimerWalk.{TimerLaws, ended, end_is, slice_has, fired_has}
use Rattle.dc_sound.proofs.Times.{clock_of-at}
use Rattle.dc_sound.proofs.TimesKept.{timed}

-- registers and memory hold words

abbrev Fit : Context → List ℕ → Type 0
Fit c memory = AreWords c.regs × AreWords memory

set_word : (ws : List ℕ) (i v : ℕ) → v < 2 ^ 32 → AreWords ws → AreWords (slice_set ws i v)
set_word ws i v h k = each-set (λ j w. w < 2 ^ 32) ws i v h k

going_fits : (c new : Context) (memory changed : List ℕ) → Going c memory new changed → Fit c memory → Fit new changed
going_fits c new memory changed (one_set a v w) h = (set_word c.regs a v (w h.0 h.1) h.0, h.1)
going_fits c new memory changed (two_set a b v w p q) h = (set_word _ b w q (set_word c.regs a v p h.0), h.1)
going_fits c new memory changed (jumped imm p) h = h
going_fits c new memory changed passed h = h
going_fits c new memory changed (stored address a) h = (h.0, set_word memory address (reg c a) (index_word c.regs a h.0) h.1)

act_fits : (time : ℕ) (code : List ℕ) (c new : Context) (memory changed : List ℕ) → act time code c memory ≡ goes new changed → Fit c memory → Fit new changed
act_fits time code c new memory changed e h = going_fits c new memory changed (subst (Acts code c memory) e (acts time code c memory)).2 h

-- deadlines below a bound

abbrev Low : ℕ → List Timer → Type 0
Low most ts = Each ts (λ i (t : Timer). t.deadline < most)

abbrev Below : ℕ → List Timer → ℕ → List (Option Latch) → Type 0
Below most ts n os = Low most ts

kept_by : (f : Timer → Bool) (most : ℕ) (t : Timer) (ts us : List Timer) → t.deadline < most → Low most us → (b : Bool) → Low most (if b then t ∷ us else us)
kept_by f most t ts us h k true zero u e = let same : t.deadline ≡ u.deadline = cc in omega (arith, h, same)
kept_by f most t ts us h k true (suc i) u e = k i u e
kept_by f most t ts us h k false i u e = k i u e

filtered : (f : Timer → Bool) (most : ℕ) (ts : List Timer) → Low most ts → Low most (filter f ts)
filtered f most [] h = h
filtered f most (t ∷ ts) h = kept_by f most t ts (filter f ts) (h 0 t refl) (filtered f most ts (λ i u e. h (suc i) u e)) (f t)

one_more : (most : ℕ) (ts : List Timer) (t : Timer) → t.deadline < most → Low most ts → Low most (ts ++ t ∷ [])
one_more most [] t h k zero u e = let same : t.deadline ≡ u.deadline = cc in omega (arith, h, same)
one_more most [] t h k (suc i) u e = absurd cc
one_more most (x ∷ xs) t h k zero u e = k zero u e
one_more most (x ∷ xs) t h k (suc i) u e = one_more most xs t h (λ j v q. k (suc j) v q) i u e

deadline_laws : (time : ℕ) → TimerLaws (Below (time + 2 ^ 32)) (Below (time + 2 ^ 32)) Fit time
deadline_laws time = record {
  fewer = λ t ts n os h. filtered (λ (u : Timer). not (u.number == t.number)) (time + 2 ^ 32) ts h;
  weaker = λ ts n os h. h;
  taken = λ ts n os i h. h;
  goes_on = λ code c new memory changed e h. act_fits time code c new memory changed e h;
  armed = λ c memory b signal value n ts os f h. let w = index_word c.regs b f.0 in one_more (time + 2 ^ 32) ts _ (omega (arith, w)) h;
}

due_timers : (v : Version) (d : ℕ) (x : ControlBlock) → (due_after v d x).parts.timers ≡ x.parts.timers
due_timers version.Rr d x = refl
due_timers version.Edf d x = refl

latched_timers : (signal l n : ℕ) (x : ControlBlock) → (latch_in signal (line_latch l n) x).parts.timers ≡ x.parts.timers
unfolding latch_in wake
latched_timers signal l n x = refl

module _ (s : State) (chs : List Change) (e : Entry) (kind : Kind s chs e) (p : DeadlinesWithin s) (words : AllWords s) (clocked : IsClocked s) (placed : IsPlaced s) (fit : PostsFit s) (settled : IsSettled s) where
  -- deadlines near the time that the block had
  record Near (b : ℕ) (x : ControlBlock) : Type 0 where
    pub was : Block
    pub was_at : slice_get s.blocks b ≡ Some was
    pub near : Low (time_of s.cores was.whereabouts + 2 ^ 32) x.parts.timers

  -- the time of a block that has a turn
  turn_time : (c : ℕ) (k : Core) (b : ℕ) (x : Block) → HasTurn s c k b x → (home : ℕ) (offset : ℤ) (v : Version) → x.whereabouts ≡ on home offset v → time_of s.cores x.whereabouts ≡ time_on k.clock offset
  turn_time c k b x turn home offset v w =
      let own = placed.only c k turn.core_at b turn.here in
      let here : IsOn c x.whereabouts = subst (λ (u : Block). IsOn c u.whereabouts) (same_some (slice_get s.blocks b) own.0 x own.1 turn.block_at) own.2 in
      let home_is : home ≡ c = subst (IsOn c) w here in
      ap (time_of s.cores) w ∙ ap (λ n. time_on n offset) (ap (clock_of s.cores) home_is ∙ clock_of-at s.cores c k turn.core_at)

  sliced : (i : IsSlice s chs e) → Near i.b (sliced_of s chs e i).control
  sliced i =
      let time = time_on i.k.clock i.offset in
      let out = got_by s chs e i in
      let same = turn_time i.c i.k i.b i.x i.turn i.home i.offset i.v i.whereabouts_at in
      let near : Low (time + 2 ^ 32) i.x.control.parts.timers = subst (λ n. Low (n + 2 ^ 32) i.x.control.parts.timers) same (p i.b i.x i.turn.block_at) in
      let w = words i.b i.x i.turn.block_at in
      let h = slice_has (Below (time + 2 ^ 32)) (Below (time + 2 ^ 32)) Fit time (deadline_laws time) i.k.settings.quantum i.c i.b i.x.control i.d i.h out near (λ c q. (w.regs i.d c q, w.memory)) i.halfway_at in
      let timers = ap (λ (x : ControlBlock). x.parts.timers) (end_is i.c i.b i.v i.d i.h out) ∙ due_timers i.v i.d (ended i.c i.b i.d i.h out) in
      record { was = i.x; was_at = i.turn.block_at; near = subst (λ ts. Low (time_of s.cores i.x.whereabouts + 2 ^ 32) ts) (sym timers) (subst (λ n. Low (n + 2 ^ 32) (ended i.c i.b i.d i.h out).parts.timers) (sym same) h.timers) }

  fired : (i : IsSliceNone s chs e) → Near i.b i.x.control → Near i.b (after_timers i.k.clock i.offset i.x.control)
  fired i h =
      let time = time_on i.k.clock i.offset in
      let same = turn_time i.c i.k i.b i.x i.turn i.home i.offset i.v i.whereabouts_at in
      let near : Low (time + 2 ^ 32) i.x.control.parts.timers = subst (λ n. Low (n + 2 ^ 32) i.x.control.parts.timers) same (p i.b i.x i.turn.block_at) in
      let f = fired_has (Below (time + 2 ^ 32)) (Below (time + 2 ^ 32)) Fit time (deadline_laws time) i.x.control near in
      record { was = i.x; was_at = i.turn.block_at; near = subst (λ n. Low (n + 2 ^ 32) (after_timers i.k.clock i.offset i.x.control).parts.timers) (sym same) f.timers }

  laws : ControlLaws Near s chs e
  laws = record {
    slice = λ i h. sliced i;
    slice_none = fired;
    wake = λ i h. record { was = h.was; was_at = h.was_at; near = h.near };
    intake = λ i h. record { was = h.was; was_at = h.was_at; near = subst (λ ts. Low (time_of s.cores h.was.whereabouts + 2 ^ 32) ts) (sym (latched_timers i.to.1 i.l i.n i.x.control)) h.near };
  }

  -- each entry keeps this part; an armed timer uses that registers hold words, and times do not fall
  pub deadlines_kept : DeadlinesWithin (apply s chs)
  deadlines_kept b z q i t at =
      let h = controls_kept Near s chs e laws (λ c x r. record { was = x; was_at = r; near = p c x r }) kind b z q in
      let o = (timed s chs e clocked p placed fit settled kind).all b z q in
      let same : time_of s.cores h.was.whereabouts ≡ time_of s.cores o.was.whereabouts = ap (λ (x : Block). time_of s.cores x.whereabouts) (same_some (slice_get s.blocks b) h.was o.was h.was_at o.was_at) in
      let near = h.near i t at in
      let later = o.later in
      omega (arith, near, same, later)
