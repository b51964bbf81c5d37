-- Every clock and every block's time is at least 0 and below its bound: each entry keeps this.
use Rattle.std.proofs.Common.{◌≡◌, ℕ, ◌+◌, ◌*◌, ◌^◌, ◌≤◌, ◌<◌, List, [], ◌∷◌, ◌++◌, false, Some, None, refl, sym, ap, ◌∙◌, subst, arith, map}
use Rattle.std.proofs.lemmas.Int.{ints}
use Rattle.std.proofs.lemmas.Bool.Decides.{nat_tests}
use Rattle.std.specs.Prelude.{slice_get, slice_set, pos, ◌+ℤ◌, ◌-ℤ◌, ◌≤ℤ◌}
use Rattle.std.proofs.lemmas.Bool.{or_parts}
use Rattle.dc_base.specs.declared.kernels.Clocks.{Clocks}
use Rattle.dc_base.specs.declared.kernels.Clocks.TheVariants as clocks
use Rattle.dc_base.specs.declared.kernels.Version.{Version}
use Rattle.dc_base.specs.declared.commands.Order.TheVariants as orders
use Rattle.dc_base.specs.declared.entries.Entry.{Entry}
use Rattle.dc_base.specs.declared.interrupts.Timer.{Timer}
use Rattle.dc_base.specs.Bounded.{DeadlinesWithin, budget, IsFromZero, IsClocked, IsSettled}
use Rattle.dc_base.specs.Changes.{Change, apply, block_becomes}
use Rattle.dc_base.specs.Orders.{change_all, under, block_under, block_at_rest, acked, adopted_time}
use Rattle.dc_base.specs.Outcomes.{share_blocks, share_without, with_clock}
use Rattle.dc_base.specs.Placed.{IsOn, IsPlaced}
use Rattle.dc_base.specs.Progress.{PostsFit, IsRest, IsAtRest}
use Rattle.dc_base.specs.States.{State, Core, Block, Whereabouts, rest, on, time_on, time_at, time_of, clock_of, place_on}
use Rattle.dc_base.specs.IdleTurns.{due_clock}
use Rattle.dc_base.specs.SliceTurns.{core_after_slice}
use Rattle.dc_base.specs.Timers.{is_due}
use Rattle.dc_base.specs.Turns.{looked_at}
use Rattle.dc_base.specs.Words.{Each, above_zero}
use Rattle.dc_sound.proofs.EntryKinds.{got_by, sliced_of, IsSlice, IsSliceNone, IsIdle, IsWake, IsIntake, IsStart, IsStop, IsReplace, IsAdopt, IsRelease, slice_changes, Kind, is_slice, is_slice_none, is_idle, is_wake, is_intake, is_start, is_stop, is_replace, is_adopt, is_release, is_post, is_done, is_refused, is_route, is_awaited, is_raise}
use Rattle.dc_sound.proofs.Rules.{Fine}
use Rattle.dc_block_sound.proofs.Elements.{same_some, set_here, SetCase, set_now, set_before, set_case, AllCase, was_listed, not_listed, all_cores, block_case}
use Rattle.dc_sound.proofs.Placed.{places, frame_obeyed, by_slice, by_slice_none, by_idle, by_wake, by_intake, by_post, by_done, by_refused, by_route, by_awaited, by_raise}
use Rattle.dc_sound.proofs.CoresAfter.{outside_cores, post_cores, done_cores}
use Rattle.dc_sound.proofs.Times.{Ticks, tick, no_tick, budget_is, clock_of-at, clocks_bound, OnTime, InTime, same_place}
use Rattle.dc_sound.proofs.Advances.{half_ran, end_advance, not_due, next_in, none_runs, idle_clock}

adopted_by : (how : Clocks) (old clock most : ℕ) → old < most → clock < most → (old ≤ adopted_time how old clock) × (adopted_time how old clock < most)
adopted_by clocks.Kept old clock most h k = (omega arith, h)
adopted_by clocks.Running old clock most h k = (grind (arith, nat_tests), grind (arith, nat_tests))

module _ (s : State) (chs : List Change) (e : Entry) (p : IsClocked s) (deadlines : DeadlinesWithin s) (placed : IsPlaced s) (fit : PostsFit s) (settled : IsSettled s) where
  -- clocks and times after an entry
  pub record Timed (t : State) : Type 0 where
    pub n : ℕ
    pub ticks : Ticks s t n
    pub all : Each t.blocks (λ b z. OnTime s t n b z)

  on_time : (t : State) (n b : ℕ) (z was : Block) (u : Whereabouts) → slice_get s.blocks b ≡ Some was → z.whereabouts ≡ u → InTime s t n was.whereabouts u → OnTime s t n b z
  on_time t n b z was u q w h = record {
    was = was;
    was_at = q;
    from_zero = subst (IsFromZero t.cores) (sym w) h.from_zero;
    later = subst (λ v. time_of s.cores was.whereabouts ≤ time_of t.cores v) (sym w) h.later;
    bound = subst (λ v. time_of t.cores v < 2 ^ 62 + (budget s + n) * 2 ^ 32) (sym w) h.bound;
  }

  stays_in : (t : State) (n : ℕ) → Ticks s t n → (b : ℕ) (x : Block) → slice_get s.blocks b ≡ Some x → OnTime s t n b x
  stays_in t n ticks b x q = on_time t n b x x x.whereabouts q refl (same_place s t n ticks x.whereabouts (p.from_zero b x q) (p.times b x q))

  -- where the blocks stay where they are
  framed : (n : ℕ) → Ticks s (apply s chs) n → Fine (places s) chs → Timed (apply s chs)
  framed n ticks fine = record {
    n = n;
    ticks = ticks;
    all = λ b z q.
        let o = (frame_obeyed s chs fine placed).blocks b z q in
        on_time (apply s chs) n b z o.was o.was.whereabouts o.was_at o.whereabouts (same_place s (apply s chs) n ticks o.was.whereabouts (p.from_zero b o.was o.was_at) (p.times b o.was o.was_at));
  }

  slice_ticks : IsSlice s chs e → Ticks s (apply s chs) 1
  slice_ticks i =
      let sl = sliced_of s chs e i in
      let same = settled.same i.c i.k i.turn.core_at in
      let most : i.k.settings.quantum ≤ 64 = subst (λ t. t.quantum ≤ 64) (sym same) settled.limits.quantum.1 in
      let ran = half_ran _ _ _ _ i.h i.halfway_at in
      let far = end_advance i.c i.b i.v i.d i.h (got_by s chs e i) in
      subst (λ cs. Ticks s (apply s cs) 1) (sym (slice_changes s chs e i))
      (tick i.c i.k (core_after_slice i.k i.b (i.k.clock + sl.advance)) i.turn.core_at (outside_cores i.b sl.need sl.outside _) refl (omega arith) (omega (arith, most, ran, far)))

  slice_none_ticks : IsSliceNone s chs e → Ticks s (apply s chs) 1
  slice_none_ticks i = subst (λ cs. Ticks s (apply s cs) 1) (sym i.changes_are) (tick i.c i.k _ i.turn.core_at refl refl (omega arith) (omega arith))

  -- the clock goes to a timer of the share that is not due yet, less than 2^32 away
  idle_by : (i : IsIdle s chs e) (b : ℕ) (x : Block) (t : Timer) → slice_get s.blocks b ≡ Some x → IsOn i.c x.whereabouts → is_due (time_at i.k.clock x.whereabouts) x.control.parts.timers ≡ false →
      (j : ℕ) → slice_get x.control.parts.timers j ≡ Some t → (w : Whereabouts) → x.whereabouts ≡ w → due_clock w t ≡ i.clock → (i.k.clock ≤ i.clock) × (i.clock ≤ i.k.clock + 1 * 2 ^ 32)
  idle_by i b x t q o none j at (rest kept) w d = absurd (subst (IsOn i.c) w o)
  idle_by i b x t q o none j at (on c offset v) w d =
      let here : c ≡ i.c = subst (IsOn i.c) w o in
      let clock : clock_of s.cores c ≡ i.k.clock = ap (clock_of s.cores) here ∙ clock_of-at s.cores i.c i.k i.core_at in
      let zero : pos 0 ≤ℤ (pos i.k.clock +ℤ offset) = subst (λ n. pos 0 ≤ℤ (pos n +ℤ offset)) clock (subst (IsFromZero s.cores) w (p.from_zero b x q)) in
      let late : time_on i.k.clock offset < t.deadline = subst (λ u. time_at i.k.clock u < t.deadline) w (not_due (time_at i.k.clock x.whereabouts) x.control.parts.timers none j t at) in
      let near : t.deadline < time_on i.k.clock offset + 2 ^ 32 = subst (λ n. t.deadline < time_on n offset + 2 ^ 32) clock (subst (λ u. t.deadline < time_of s.cores u + 2 ^ 32) w (deadlines b x q j t at)) in
      subst (λ n. (i.k.clock ≤ n) × (n ≤ i.k.clock + 1 * 2 ^ 32)) d (idle_clock i.k.clock t.deadline offset zero late near)

  idle_ticks : IsIdle s chs e → Ticks s (apply s chs) 1
  idle_ticks i =
      let d = next_in s.blocks i.clock i.k.share i.due in
      let own = placed.only i.c i.k i.core_at d.b d.here in
      let o : IsOn i.c d.x.whereabouts = subst (λ (u : Block). IsOn i.c u.whereabouts) (same_some (slice_get s.blocks d.b) own.0 d.x own.1 d.block_at) own.2 in
      let none = (or_parts _ _ (none_runs s.blocks i.k.clock d.b d.x d.block_at i.k.share d.here i.none_runs)).1 in
      let far = idle_by i d.b d.x d.due.timer d.block_at o none d.due.i d.due.timer_at d.x.whereabouts refl d.due.is in
      subst (λ cs. Ticks s (apply s cs) 1) (sym i.changes_are) (tick i.c i.k (with_clock i.clock i.k) i.core_at refl refl far.0 far.1)

  wake_ticks : IsWake s chs e → Ticks s (apply s chs) 1
  wake_ticks i = subst (λ cs. Ticks s (apply s cs) 1) (sym i.changes_are) (tick i.c i.k _ i.turn.core_at refl refl (omega arith) (omega arith))

  intake_ticks : IsIntake s chs e → Ticks s (apply s chs) 0
  intake_ticks i = subst (λ cs. Ticks s (apply s cs) 0) (sym i.changes_are) (no_tick refl refl)

  -- the orders move no clock
  order_ticks : (t : State) (c : ℕ) (k new : Core) → slice_get s.cores c ≡ Some k → t.cores ≡ slice_set s.cores c new → new.used ≡ k.used → new.clock ≡ k.clock → Ticks s t 0
  order_ticks t c k new h q u l = tick c k new h q (omega (arith, u)) (omega (arith, l)) (omega (arith, l))

  start_clocked : IsStart s chs e → Timed (apply s chs)
  start_clocked i =
      let t = apply s (acked i.c (record i.k { version = Some i.v }) []) in
      let ticks = order_ticks t i.c i.k (record i.k { version = Some i.v }) i.order_at.core_at refl refl refl in
      subst (λ cs. Timed (apply s cs)) (sym i.changes_are) (record { n = 0; ticks = ticks; all = λ b z q. stays_in t 0 ticks b z q })

  -- a block of this core comes to rest with its time
  at_rest_in : (t : State) (c : ℕ) (k : Core) → slice_get s.cores c ≡ Some k → (w : Whereabouts) → IsOn c w → time_of s.cores w < 2 ^ 62 + budget s * 2 ^ 32 → InTime s t 0 w (rest (time_at k.clock w))
  at_rest_in t c k h (rest kept) o b = absurd o
  at_rest_in t c k h (on d offset v) o b =
      let same : time_on (clock_of s.cores d) offset ≡ time_on k.clock offset = ap (λ n. time_on n offset) (ap (clock_of s.cores) o ∙ clock_of-at s.cores c k h) in
      record { from_zero = tt; later = omega (arith, same); bound = omega (arith, same, b) }

  stop_clocked : IsStop s chs e → Timed (apply s chs)
  stop_clocked i =
      let new = record i.k { version = None; share = [] } in
      let mid = apply s (acked i.c new []) in
      let f = block_at_rest i.k.clock in
      let t = apply mid (change_all f (map (looked_at s.blocks) (share_blocks i.k.share))) in
      let ticks = order_ticks t i.c i.k new i.order_at.core_at (all_cores f s.blocks i.k.share mid) refl refl in
      subst (λ cs. Timed (apply s cs)) (sym i.changes_are) (record { n = 0; ticks = ticks; all = λ b z q. by_case t ticks b z (block_case f s mid i.k.share b z refl q) })
    where
      by_case : (t : State) → Ticks s t 0 → (b : ℕ) (z : Block) → AllCase (block_at_rest i.k.clock) s.blocks i.k.share (apply s (acked i.c (record i.k { version = None; share = [] }) [])) b z → OnTime s t 0 b z
      by_case t ticks b z (was_listed h x q g) =
          let own = placed.only i.c i.k i.order_at.core_at b h in
          let o = subst (λ (u : Block). IsOn i.c u.whereabouts) (same_some (slice_get s.blocks b) own.0 x own.1 q) own.2 in
          on_time t 0 b z x (rest (time_at i.k.clock x.whereabouts)) q (ap (λ (u : Block). u.whereabouts) g) (at_rest_in t i.c i.k i.order_at.core_at x.whereabouts o (p.times b x q))
      by_case t ticks b z (not_listed h q) = stays_in t 0 ticks b z q

  under_in : (t : State) → Ticks s t 0 → (v : Version) (w : Whereabouts) → IsFromZero s.cores w → time_of s.cores w < 2 ^ 62 + budget s * 2 ^ 32 → InTime s t 0 w (under v w)
  under_in t ticks v (rest kept) z b = same_place s t 0 ticks (rest kept) z b
  under_in t ticks v (on c offset u) z b = let r = same_place s t 0 ticks (on c offset u) z b in record { from_zero = r.from_zero; later = r.later; bound = r.bound }

  replace_clocked : IsReplace s chs e → Timed (apply s chs)
  replace_clocked i =
      let new = record i.k { version = Some i.v } in
      let mid = apply s (acked i.c new []) in
      let f = block_under i.v in
      let t = apply mid (change_all f (map (looked_at s.blocks) (share_blocks i.k.share))) in
      let ticks = order_ticks t i.c i.k new i.order_at.core_at (all_cores f s.blocks i.k.share mid) refl refl in
      subst (λ cs. Timed (apply s cs)) (sym i.changes_are) (record { n = 0; ticks = ticks; all = λ b z q. by_case t ticks b z (block_case f s mid i.k.share b z refl q) })
    where
      by_case : (t : State) → Ticks s t 0 → (b : ℕ) (z : Block) → AllCase (block_under i.v) s.blocks i.k.share (apply s (acked i.c (record i.k { version = Some i.v }) [])) b z → OnTime s t 0 b z
      by_case t ticks b z (was_listed h x q g) = on_time t 0 b z x (under i.v x.whereabouts) q (ap (λ (u : Block). u.whereabouts) g) (under_in t ticks i.v x.whereabouts (p.from_zero b x q) (p.times b x q))
      by_case t ticks b z (not_listed h q) = stays_in t 0 ticks b z q

  placed_in : (t : State) (c clock time : ℕ) (v : Version) (w : Whereabouts) → clock_of t.cores c ≡ clock → time_of s.cores w ≤ time → time < 2 ^ 62 + budget s * 2 ^ 32 → InTime s t 0 w (place_on c clock time v)
  placed_in t c clock time v w h l b =
      let f : pos clock +ℤ (pos time -ℤ pos clock) ≡ pos time = omega (arith, ints) in
      let g : time_on (clock_of t.cores c) (pos time -ℤ pos clock) ≡ time = ap (λ n. time_on n (pos time -ℤ pos clock)) h ∙ ap above_zero f in
      record { from_zero = subst (λ n. pos 0 ≤ℤ (pos n +ℤ (pos time -ℤ pos clock))) (sym h) (omega (arith, ints)); later = omega (arith, g, l); bound = omega (arith, g, b) }

  rest_time : (w : Whereabouts) (clock : ℕ) → IsRest w → time_at clock w ≡ time_of s.cores w
  rest_time (rest kept) clock h = refl
  rest_time (on c offset v) clock h = absurd h

  adopt_clocked : IsAdopt s chs e → Timed (apply s chs)
  adopt_clocked i =
      let new = record i.k { share = i.k.share ++ record { block = i.b.0; parked = i.parked } ∷ [] } in
      let time = adopted_time i.k.settings.clocks (time_at i.k.clock i.x.whereabouts) i.k.clock in
      let z = record i.x { whereabouts = place_on i.c i.k.clock time i.v } in
      let t = apply s (acked i.c new (block_becomes i.b.0 z ∷ [])) in
      let ticks = order_ticks t i.c i.k new i.order_at.core_at refl refl refl in
      let still = subst IsAtRest i.block_at (fit i.c (orders.Adopt i.b i.parked) i.k i.order_at.mailbox_at i.order_at.core_at).1 in
      let old = rest_time i.x.whereabouts i.k.clock still in
      let within = p.times i.b.0 i.x i.block_at in
      let far = adopted_by i.k.settings.clocks (time_at i.k.clock i.x.whereabouts) i.k.clock (2 ^ 62 + budget s * 2 ^ 32) (omega (arith, old, within)) (p.clocks i.c i.k i.order_at.core_at) in
      let here : clock_of t.cores i.c ≡ i.k.clock = clock_of-at t.cores i.c new (set_here s.cores i.c i.k new i.order_at.core_at) in
      let first = far.0 in
      subst (λ cs. Timed (apply s cs)) (sym i.changes_are)
      (record { n = 0; ticks = ticks; all = λ b y q. by_case t ticks z (placed_in t i.c i.k.clock time i.v i.x.whereabouts here (omega (arith, old, first)) far.1) refl b y (set_case s.blocks i.b.0 z b y q) })
    where
      by_case : (t : State) → Ticks s t 0 → (z : Block) {u : Whereabouts} → InTime s t 0 i.x.whereabouts u → z.whereabouts ≡ u → (b : ℕ) (y : Block) → SetCase s.blocks i.b.0 z b y → OnTime s t 0 b y
      by_case t ticks z {u} h w b y (set_now same q) = on_time t 0 b y i.x u (ap (slice_get s.blocks) (sym same) ∙ i.block_at) (ap (λ (v : Block). v.whereabouts) q ∙ w) h
      by_case t ticks z h w b y (set_before n q) = stays_in t 0 ticks b y q

  release_clocked : IsRelease s chs e → Timed (apply s chs)
  release_clocked i =
      let new = record i.k { share = share_without i.b.0 i.k.share } in
      let z = block_at_rest i.k.clock i.x in
      let t = apply s (acked i.c new (block_becomes i.b.0 z ∷ [])) in
      let ticks = order_ticks t i.c i.k new i.order_at.core_at refl refl refl in
      let own = placed.only i.c i.k i.order_at.core_at i.b.0 (fit i.c (orders.Release i.b) i.k i.order_at.mailbox_at i.order_at.core_at).1 in
      let o = subst (λ (u : Block). IsOn i.c u.whereabouts) (same_some (slice_get s.blocks i.b.0) own.0 i.x own.1 i.block_at) own.2 in
      subst (λ cs. Timed (apply s cs)) (sym i.changes_are)
      (record { n = 0; ticks = ticks; all = λ b y q. by_case t ticks z (at_rest_in t i.c i.k i.order_at.core_at i.x.whereabouts o (p.times i.b.0 i.x i.block_at)) refl b y (set_case s.blocks i.b.0 z b y q) })
    where
      by_case : (t : State) → Ticks s t 0 → (z : Block) {u : Whereabouts} → InTime s t 0 i.x.whereabouts u → z.whereabouts ≡ u → (b : ℕ) (y : Block) → SetCase s.blocks i.b.0 z b y → OnTime s t 0 b y
      by_case t ticks z {u} h w b y (set_now same q) = on_time t 0 b y i.x u (ap (slice_get s.blocks) (sym same) ∙ i.block_at) (ap (λ (v : Block). v.whereabouts) q ∙ w) h
      by_case t ticks z h w b y (set_before n q) = stays_in t 0 ticks b y q

  no_ticks : {cs : List Change} → chs ≡ cs → (apply s cs).cores ≡ s.cores → Ticks s (apply s chs) 0
  no_ticks q h = subst (λ ds. Ticks s (apply s ds) 0) (sym q) (no_tick h refl)

  -- clocks and times after each entry; this uses where the blocks are, that posts fit, the settings, and the deadlines (for an idle core)
  pub timed : Kind s chs e → Timed (apply s chs)
  timed (is_slice i) = framed 1 (slice_ticks i) (by_slice s chs e i)
  timed (is_slice_none i) = framed 1 (slice_none_ticks i) (by_slice_none s chs e i)
  timed (is_idle i) = framed 1 (idle_ticks i) (by_idle s chs e i)
  timed (is_wake i) = framed 1 (wake_ticks i) (by_wake s chs e i)
  timed (is_intake i) = framed 0 (intake_ticks i) (by_intake s chs e i)
  timed (is_start i) = start_clocked i
  timed (is_stop i) = stop_clocked i
  timed (is_replace i) = replace_clocked i
  timed (is_adopt i) = adopt_clocked i
  timed (is_release i) = release_clocked i
  timed (is_post i) = framed 0 (no_ticks i.changes_are (post_cores s i.command i.before i.before_at _ _ _)) (by_post s chs e i)
  timed (is_done i) = framed 0 (no_ticks i.changes_are (done_cores s i.command i.before i.before_at _)) (by_done s chs e i)
  timed (is_refused i) = framed 0 (no_ticks i.changes_are refl) (by_refused s chs e i)
  timed (is_route i) = framed 0 (no_ticks i.changes_are refl) (by_route s chs e i)
  timed (is_awaited i) = framed 0 (no_ticks i.changes_are refl) (by_awaited s chs e i)
  timed (is_raise i) = framed 0 (no_ticks i.changes_are refl) (by_raise s chs e i)

  conclude : (t : State) → Timed t → IsClocked t
  conclude t h = record {
    clocks = clocks_bound s t h.n h.ticks p.clocks;
    from_zero = λ b z q. (h.all b z q).from_zero;
    times = λ b z q. subst (λ u. time_of t.cores z.whereabouts < 2 ^ 62 + u * 2 ^ 32) (sym (budget_is s t h.n h.ticks)) (h.all b z q).bound;
  }

  -- each entry keeps this part
  pub clocked_kept : Kind s chs e → IsClocked (apply s chs)
  clocked_kept k = conclude (apply s chs) (timed k)
