-- Budgets, sent messages, raises and latches stay within their counts.
use Rattle.std.proofs.Common.{◌≡◌, ℕ, ◌+◌, ◌≤◌, List, [], ◌∷◌, ◌++◌, Bool, true, false, Option, Some, None, refl, sym, ap, ◌∙◌, subst, arith, length}
use Rattle.std.specs.Prelude.{slice_get, slice_set, ◌==◌, nat_lt, if◌then◌else◌}
use Rattle.std.proofs.lemmas.Bool.Decides.{nat_tests}
use Rattle.dc_base.specs.declared.commands.Command.{Command}
use Rattle.dc_base.specs.declared.entries.Entry.{Entry}
use Rattle.dc_base.specs.declared.interrupts.Latched.{Latched}
use Rattle.dc_base.specs.declared.interrupts.Latched.TheVariants as how
use Rattle.dc_base.specs.declared.kernels.Version.{Version}
use Rattle.dc_base.specs.declared.kernels.Version.TheVariants as version
use Rattle.dc_base.specs.declared.messages.Message.{Message}
use Rattle.dc_base.specs.Bounded.{budget, IsCounted}
use Rattle.dc_base.specs.Changes.{Change, block_becomes, apply}
use Rattle.dc_base.specs.Channels.{Ring, ring_after_send, ring_after_take, ring_without_first}
use Rattle.dc_base.specs.ControlBlocks.{ControlBlock}
use Rattle.dc_base.specs.Firing.{latch_in}
use Rattle.dc_base.specs.Lines.{Wire, wire_after, wire_after_raise, wire_after_intake, line_latch}
use Rattle.dc_base.specs.Ports.{latch_at, how_latched}
use Rattle.dc_base.specs.Report.{latches_of}
use Rattle.dc_base.specs.Slices.{Halfway, stopped, stands, due_after}
use Rattle.dc_base.specs.States.{State, Core, Block, with_control, time_on}
use Rattle.dc_base.specs.Words.{Each}
use Rattle.dc_sound.proofs.EntryKinds.{IsSlice, IsSliceNone, IsIntake, IsRaise, Before, first_post, next_post, got_by, sliced_of, slice_changes, after_timers, Kind, is_slice, is_slice_none, is_idle, is_wake, is_intake, is_start, is_stop, is_replace, is_adopt, is_release, is_post, is_done, is_refused, is_route, is_awaited, is_raise}
use Rattle.dc_sound.proofs.Budgets.{budget_grows, slice_spends}
use Rattle.dc_block_sound.proofs.Elements.{set_case, SetCase, set_now, set_before}
use Rattle.dc_sound.proofs.Latches.{held, held_by, NoMore, AnyContext, latch_laws, intake_given, intake_other, latches-set, sums_fall}
use Rattle.dc_sound.proofs.Leaves.{Leaves, fine_kind}
use Rattle.dc_sound.proofs.Lengths.{same_lengths}
use Rattle.dc_sound.proofs.Rules.{Rule, no_rule, Obeys, kept}
use Rattle.dc_sound.proofs.SliceFacts.{HalfLaws, no_outside}
use Rattle.dc_sound.proofs.TimerWalk.{ended, end_is, slice_has, fired_has}

-- the raises made never fall

abbrev more_raises : State → Rule
more_raises s = record no_rule { script = λ t. s.script.raises ≤ t.raises }

module _ (s : State) (chs : List Change) (e : Entry) where
  raise_leaves : Leaves (more_raises s) s chs e
  raise_leaves = record {
    slice = λ i. (tt, tt, no_outside (more_raises s) s i.c i.b (λ b ws. tt) (λ x r. tt) (λ l w. tt) i.h);
    slice_none = λ i. (tt, tt);
    idle = λ i. tt;
    wake = λ i. (tt, tt);
    intake = λ i. (tt, tt);
    start = λ i. (tt, tt);
    stop = λ i. (tt, tt, λ b x q. tt);
    replace = λ i. (tt, tt, λ b x q. tt);
    adopt = λ i. (tt, tt, tt);
    release = λ i. (tt, tt, tt);
    emptied = λ c. tt;
    post = λ i. (tt, omega arith);
    done = λ i. omega arith;
    refused = λ i. omega arith;
    route = λ i. (tt, omega arith);
    awaited = λ i. omega arith;
    raise = λ i. (tt, omega arith);
  }

  pub raises_grow : Kind s chs e → s.script.raises ≤ (apply s chs).script.raises
  raises_grow k =
      (kept (more_raises s) chs s (fine_kind (more_raises s) s chs e raise_leaves obeyed k) obeyed).script
    where
      obeyed : Obeys (more_raises s) s
      obeyed = record { cores = λ c k e. tt; blocks = λ b x e. tt; channels = λ x r e. tt; lines = λ l w e. tt; mailboxes = λ c m e. tt; consoles = λ b ws e. tt; script = omega arith }

-- budgets, sent messages and raises

sent_more : (r : Ring) (m : Message) (new : Ring) → ring_after_send r m ≡ Some new → new.sent ≡ r.sent + 1
unfolding ring_after_send
sent_more r m new h = by_room (nat_lt (length r.untaken) r.capacity) h
  where
    by_room : (t : Bool) → (if t then Some (record r { untaken = r.untaken ++ m ∷ []; sent = r.sent + 1 }) else None) ≡ Some new → new.sent ≡ r.sent + 1
    by_room true h = let same : record r { untaken = r.untaken ++ m ∷ []; sent = r.sent + 1 } ≡ new = cc in ap (λ (x : Ring). x.sent) (sym same)
    by_room false h = absurd cc

taken_by : (r : Ring) (ms : List Message) (got : Message × Ring) → ring_without_first r ms ≡ Some got → got.1.sent ≡ r.sent
taken_by r [] got h = absurd cc
taken_by r (m ∷ ms) got h = let same : ◌≡◌ {A = Message × Ring} (m, record r { untaken = ms; taken = r.taken + 1 }) got = cc in ap (λ (g : Message × Ring). g.1.sent) (sym same)

taken_same : (r : Ring) (got : Message × Ring) → ring_after_take r ≡ Some got → got.1.sent ≡ r.sent
unfolding ring_after_take
taken_same r got h = taken_by r r.untaken got h

raised_by : (w : Wire) (to : Option (ℕ × ℕ)) (n : Option ℕ) → (wire_after w to n).counts.raised ≡ w.counts.raised + 1
raised_by w None n = refl
raised_by w (Some to) None = refl
raised_by w (Some to) (Some n) = refl

raised_more : (w : Wire) → (wire_after_raise w).counts.raised ≡ w.counts.raised + 1
unfolding wire_after_raise
raised_more w = raised_by w w.bound w.pending

taken_in : (w : Wire) (l : Latched) → (wire_after_intake l w).counts.raised ≡ w.counts.raised
unfolding wire_after_intake
taken_in w how.Latched = refl
taken_in w how.Coalesced = refl

used_one : (k : Core) → (k.used == k.settings.slices) ≡ false → k.used ≤ k.settings.slices → k.used + 1 ≤ k.settings.slices
used_one k u h = grind (arith, nat_tests)

module _ (s : State) (chs : List Change) (e : Entry) (kind : Kind s chs e) (p : IsCounted s) where
  -- within the counts of the state after the entry
  abbrev within : Rule
  within = record no_rule { core = λ c k. k.used ≤ k.settings.slices; channel = λ x r. r.sent ≤ budget (apply s chs); line = λ l w. w.counts.raised ≤ (apply s chs).script.raises }

  raised_within : (l : ℕ) (w : Wire) → slice_get s.lines l ≡ Some w → w.counts.raised ≤ (apply s chs).script.raises
  raised_within l w q = let h = p.raised l w q in let g = raises_grow s chs e kind in omega (arith, h, g)

  sent_within : (x : ℕ) (r : Ring) → slice_get s.channels x ≡ Some r → r.sent ≤ budget (apply s chs)
  sent_within x r q = let h = p.sent x r q in let g = budget_grows s chs e kind in omega (arith, h, g)

  obeyed : Obeys within s
  obeyed = record { cores = p.used; blocks = λ b x e. tt; channels = sent_within; lines = raised_within; mailboxes = λ c m e. tt; consoles = λ b ws e. tt; script = tt }

  in_slice : (i : IsSlice s chs e) (h : Halfway) → HalfLaws within s i.c i.b h
  in_slice i (stopped x ran e) = tt
  in_slice i (stands x ran o call) = record {
    prints_to = λ w p ws q h i. tt;
    sends_to = λ x m p r new q h j. sent_by x r new h (sent_more r m new j);
    takes_from = λ x a p r got q h j. let one = taken_same r got j in let k = sent_within x r h in omega (arith, one, k);
    binds_to = λ l n q w g h. raised_within l w h;
    gives_over = λ l x rights q w g h. raised_within l w h;
    claims_it = λ l x slot rights q w g h i. raised_within l w h;
  }
    where
      sent_by : (x : ℕ) (r new : Ring) → slice_get s.channels x ≡ Some r → new.sent ≡ r.sent + 1 → new.sent ≤ budget (apply s chs)
      sent_by x r new h j = let k = p.sent x r h in let one = slice_spends s chs e i in omega (arith, j, k, one)

  raised_at : (i : IsRaise s chs e) → (wire_after_raise i.w).counts.raised ≤ (apply s chs).script.raises
  raised_at i =
      let one = raised_more i.w in
      let h = p.raised i.l.0 i.w i.line_at in
      let after : (apply s chs).script.raises ≡ s.script.raises + 1 = ap (λ cs. (apply s cs).script.raises) i.changes_are in
      omega (arith, one, h, after)

  leaves : Leaves within s chs e
  leaves = record {
    slice = λ i. (used_one i.k i.turn.unspent (p.used i.c i.k i.turn.core_at), tt, in_slice i i.h);
    slice_none = λ i. (used_one i.k i.turn.unspent (p.used i.c i.k i.turn.core_at), tt);
    idle = λ i. used_one i.k i.unspent (p.used i.c i.k i.core_at);
    wake = λ i. (used_one i.k i.turn.unspent (p.used i.c i.k i.turn.core_at), tt);
    intake = λ i. (tt, let same = taken_in i.w _ in let h = raised_within i.l i.w i.line_at in subst (λ n. n ≤ (apply s chs).script.raises) (sym same) h);
    start = λ i. (p.used i.c i.k i.order_at.core_at, tt);
    stop = λ i. (p.used i.c i.k i.order_at.core_at, tt, λ b x q. tt);
    replace = λ i. (p.used i.c i.k i.order_at.core_at, tt, λ b x q. tt);
    adopt = λ i. (p.used i.c i.k i.order_at.core_at, tt, tt);
    release = λ i. (p.used i.c i.k i.order_at.core_at, tt, tt);
    emptied = λ c. tt;
    post = λ i. (tt, tt);
    done = λ i. tt;
    refused = λ i. tt;
    route = λ i. (raised_within i.l.0 i.w i.line_at, tt);
    awaited = λ i. tt;
    raise = λ i. (raised_at i, tt);
  }

  keeps : Obeys within (apply s chs)
  keeps = kept within chs s (fine_kind within s chs e leaves obeyed kind) obeyed

  -- latches: no more of any line in any block, except by an intake

  record WasHeld (b : ℕ) (z : Block) : Type 0 where
    pub was : Block
    pub was_at : slice_get s.blocks b ≡ Some was
    pub fewer : (l : ℕ) → held_by l z ≤ held_by l was

  record WasGiven (l : ℕ) (w : Wire) : Type 0 where
    pub was : Wire
    pub was_at : slice_get s.lines l ≡ Some was
    pub more : was.counts.given ≤ w.counts.given

  abbrev latched : Rule
  latched = record no_rule { block = WasHeld; line = WasGiven }

  same_held : (b : ℕ) (x : Block) → slice_get s.blocks b ≡ Some x → WasHeld b x
  same_held b x q = record { was = x; was_at = q; fewer = λ l. omega arith }

  same_given : (l : ℕ) (w : Wire) → slice_get s.lines l ≡ Some w → WasGiven l w
  same_given l w q = record { was = w; was_at = q; more = omega arith }

  all_same : Obeys latched s
  all_same = record { cores = λ c k e. tt; blocks = same_held; channels = λ x r e. tt; lines = same_given; mailboxes = λ c m e. tt; consoles = λ b ws e. tt; script = tt }

  due_signals : (v : Version) (d : ℕ) (x : ControlBlock) → (due_after v d x).parts.signals ≡ x.parts.signals
  due_signals version.Rr d x = refl
  due_signals version.Edf d x = refl

  sliced : (i : IsSlice s chs e) → WasHeld i.b (with_control (sliced_of s chs e i).control i.x)
  sliced i =
      let time = time_on i.k.clock i.offset in
      let out = got_by s chs e i in
      let was = i.x.control.parts.signals in
      let h = slice_has (NoMore was) (NoMore was) AnyContext time (latch_laws was time) i.k.settings.quantum i.c i.b i.x.control i.d i.h out (λ l. omega arith) (λ c q. tt) i.halfway_at in
      let same = ap (λ (x : ControlBlock). x.parts.signals) (end_is i.c i.b i.v i.d i.h out) ∙ due_signals i.v i.d (ended i.c i.b i.d i.h out) in
      record { was = i.x; was_at = i.turn.block_at; fewer = λ l. subst (λ os. held l os ≤ held l was) (sym same) (h.timers l) }

  fired : (i : IsSliceNone s chs e) → WasHeld i.b (with_control (after_timers i.k.clock i.offset i.x.control) i.x)
  fired i =
      let time = time_on i.k.clock i.offset in
      let was = i.x.control.parts.signals in
      record { was = i.x; was_at = i.turn.block_at; fewer = (fired_has (NoMore was) (NoMore was) AnyContext time (latch_laws was time) i.x.control (λ l. omega arith)).timers }

  given_in : (c b : ℕ) (h : Halfway) → HalfLaws latched s c b h
  given_in c b (stopped x ran e) = tt
  given_in c b (stands x ran o call) = record {
    prints_to = λ w p ws q h i. tt;
    sends_to = λ x m p r new q h j. tt;
    takes_from = λ x a p r got q h j. tt;
    binds_to = λ l n q w g h. record { was = w; was_at = h; more = omega arith };
    gives_over = λ l x rights q w g h. record { was = w; was_at = h; more = omega arith };
    claims_it = λ l x slot rights q w g h i. record { was = w; was_at = h; more = omega arith };
  }

  -- an intake's first change is of a block
  abbrev starts_with_block : List Change → Bool
  starts_with_block (block_becomes b x ∷ more) = true
  starts_with_block chs = false

  raise_given : (w : Wire) (to : Option (ℕ × ℕ)) (n : Option ℕ) → (wire_after w to n).counts.given ≡ w.counts.given
  raise_given w None n = refl
  raise_given w (Some to) None = refl
  raise_given w (Some to) (Some n) = refl

  raised_given : (w : Wire) → (wire_after_raise w).counts.given ≡ w.counts.given
  unfolding wire_after_raise
  raised_given w = raise_given w w.bound w.pending

  latch_leaves : starts_with_block chs ≡ false → Leaves latched s chs e
  latch_leaves n = record {
    slice = λ i. (tt, sliced i, given_in i.c i.b i.h);
    slice_none = λ i. (tt, fired i);
    idle = λ i. tt;
    wake = λ i. (tt, record { was = i.x; was_at = i.turn.block_at; fewer = λ l. omega arith });
    intake = λ i. absurd (let z : true ≡ false = sym (ap starts_with_block i.changes_are) ∙ n in cc);
    start = λ i. (tt, tt);
    stop = λ i. (tt, tt, λ b x q. record { was = x; was_at = q; fewer = λ l. omega arith });
    replace = λ i. (tt, tt, λ b x q. record { was = x; was_at = q; fewer = λ l. omega arith });
    adopt = λ i. (tt, tt, record { was = i.x; was_at = i.block_at; fewer = λ l. omega arith });
    release = λ i. (tt, tt, record { was = i.x; was_at = i.block_at; fewer = λ l. omega arith });
    emptied = λ c. tt;
    post = λ i. (tt, tt);
    done = λ i. tt;
    refused = λ i. tt;
    route = λ i. (record { was = i.w; was_at = i.line_at; more = omega arith }, tt);
    awaited = λ i. tt;
    raise = λ i. (record { was = i.w; was_at = i.line_at; more = let same = raised_given i.w in omega (arith, same) }, tt);
  }

  abbrev Given : Type 0
  Given = Each (apply s chs).lines (λ l w. latches_of l (apply s chs).blocks ≤ w.counts.given)

  not_intake : starts_with_block chs ≡ false → Given
  unfolding latches_of
  not_intake n l w q =
      let o = kept latched chs s (fine_kind latched s chs e (latch_leaves n) all_same kind) all_same in
      let old = o.lines l w q in
      let fewer = sums_fall (held_by l) s.blocks (apply s chs).blocks (same_lengths chs s).blocks (λ b z r. let u = o.blocks b z r in (u.was, u.was_at, u.fewer l)) in
      let h = p.given l old.was old.was_at in
      let m = old.more in
      omega (arith, fewer, h, m)

  by_intake : IsIntake s chs e → Given
  by_intake i = subst (λ cs. Each (apply s cs).lines (λ l w. latches_of l (apply s cs).blocks ≤ w.counts.given)) (sym i.changes_are) (λ m v q. by_line m v (set_case s.lines i.l after m v q))
    where
      new : Block
      new = with_control (latch_in i.to.1 (line_latch i.l i.n) i.x.control) i.x

      after : Wire
      after = wire_after_intake (how_latched (latch_at i.x.control.parts.signals i.to.1)) i.w

      by_line : (m : ℕ) (v : Wire) → SetCase s.lines i.l after m v → latches_of m (slice_set s.blocks i.to.0 new) ≤ v.counts.given
      by_line m v (set_now same q) =
          let sum = latches-set i.l i.to.0 i.x new s.blocks i.block_at in
          let one = intake_given i.l i.to.1 i.n i.x.control i.w in
          let h = p.given i.l i.w i.line_at in
          let is : v.counts.given ≡ after.counts.given = ap (λ (w : Wire). w.counts.given) q in
          subst (λ n. latches_of n (slice_set s.blocks i.to.0 new) ≤ v.counts.given) same (omega (arith, sum, one, h, is))
      by_line m v (set_before n q) =
          let sum = latches-set m i.to.0 i.x new s.blocks i.block_at in
          let one = intake_other i.l m i.to.1 i.n i.x.control n in
          let h = p.given m v q in
          omega (arith, sum, one, h)

  before_is : (command : Command) (before more : List Change) → Before s command before → starts_with_block more ≡ false → starts_with_block (before ++ more) ≡ false
  before_is command before more (first_post z r q) h = ap (λ cs. starts_with_block (cs ++ more)) q ∙ h
  before_is command before more (next_post last o z g m q) h = ap (λ cs. starts_with_block (cs ++ more)) q

  given_by : Kind s chs e → Given
  given_by (is_slice i) = not_intake (ap starts_with_block (slice_changes s chs e i))
  given_by (is_slice_none i) = not_intake (ap starts_with_block i.changes_are)
  given_by (is_idle i) = not_intake (ap starts_with_block i.changes_are)
  given_by (is_wake i) = not_intake (ap starts_with_block i.changes_are)
  given_by (is_intake i) = by_intake i
  given_by (is_start i) = not_intake (ap starts_with_block i.changes_are)
  given_by (is_stop i) = not_intake (ap starts_with_block i.changes_are)
  given_by (is_replace i) = not_intake (ap starts_with_block i.changes_are)
  given_by (is_adopt i) = not_intake (ap starts_with_block i.changes_are)
  given_by (is_release i) = not_intake (ap starts_with_block i.changes_are)
  given_by (is_post i) = not_intake (ap starts_with_block i.changes_are ∙ before_is i.command i.before _ i.before_at refl)
  given_by (is_done i) = not_intake (ap starts_with_block i.changes_are ∙ before_is i.command i.before _ i.before_at refl)
  given_by (is_refused i) = not_intake (ap starts_with_block i.changes_are)
  given_by (is_route i) = not_intake (ap starts_with_block i.changes_are)
  given_by (is_awaited i) = not_intake (ap starts_with_block i.changes_are)
  given_by (is_raise i) = not_intake (ap starts_with_block i.changes_are)

  -- each entry keeps this part, and uses no other
  pub counted_kept : IsCounted (apply s chs)
  counted_kept = record { used = keeps.cores; sent = keeps.channels; raised = keeps.lines; given = given_by kind }
