-- What a control block names exists, and stays so.
use Rattle.std.proofs.Common.{ℕ, ◌+◌, ◌<◌, ◌≤◌, Bool, true, false, Option, Some, None, sym, subst, arith, length}
use Rattle.std.specs.Prelude.{◌==◌, not, if◌then◌else◌, IfSome}
use Rattle.std.proofs.lemmas.Option.{slice_get_within}
use Rattle.dc_base.specs.declared.capabilities.Cap.{Cap}
use Rattle.dc_base.specs.declared.capabilities.CapKind.{CapKind}
use Rattle.dc_base.specs.declared.capabilities.CapKind.TheVariants as kind
use Rattle.dc_base.specs.declared.dispatchers.DispState.{DispState}
use Rattle.dc_base.specs.declared.dispatchers.DispState.TheVariants as disp
use Rattle.dc_base.specs.declared.dispatchers.Wait.{Wait}
use Rattle.dc_base.specs.declared.dispatchers.Wait.TheVariants as wait
use Rattle.dc_base.specs.declared.interrupts.Latch.{Latch}
use Rattle.dc_base.specs.declared.interrupts.Timer.{Timer}
use Rattle.dc_base.specs.Words.{Each}
use Rattle.dc_base.specs.ControlBlocks.{ControlBlock}
use Rattle.dc_base.specs.Capabilities.{Seat}
use Rattle.dc_base.specs.Firing.{waits_so, state_after_wake}
use Rattle.dc_base.specs.Kernel.{with_mask, memory_cap}
use Rattle.dc_base.specs.Lines.{line_latch}
use Rattle.dc_base.specs.Named.{Names, WaitNames, StateNames, SourceNames, BlockNames}
use Rattle.dc_base.specs.Ports.{signal_after, signals_after}
use Rattle.dc_base.specs.States.{State}
use Rattle.dc_base.proofs.EachLaws.{each-set, each-change, each-append}
use Rattle.dc_base.proofs.Ascending.{each_filter}
use Rattle.dc_block_sound.proofs.CapForms.{each_deleted, each_revoked, each_given}
use Rattle.dc_block_sound.proofs.ControlSteps.{Holds, MayWait, IsStill, timer_latch, woken, stands_still, held_up, fired, latched, latch_taken, armed, copied, retyped, deleted, revoked, given, claimed, StepKeeps}
use Rattle.dc_block_sound.proofs.Forms.{SameShape, same_shape, each_map}
use Rattle.dc_block_sound.proofs.Seats.{EachCap, cap_holds, each_put}

-- names hold on where as many ports and signals are

module _ (s : State) (x y : ControlBlock) (e : SameShape x y) where
  still_names : (k : CapKind) → Names s x k → Names s y k
  still_names (kind.Ram f l) h = h
  still_names (kind.Frame f l) h = h
  still_names (kind.Port p) h = subst (λ n. p.0 < n) (sym e.ports) h
  still_names (kind.Signal i) h = subst (λ n. i.0 < n) (sym e.signals) h
  still_names (kind.SendEnd z) h = h
  still_names (kind.RecvEnd z) h = h
  still_names (kind.Line l) h = h

  still_waits : (w : Wait) → WaitNames s x w → WaitNames s y w
  still_waits (wait.Send p) h = subst (λ n. p.0 < n) (sym e.ports) h
  still_waits (wait.Recv p) h = subst (λ n. p.0 < n) (sym e.ports) h
  still_waits (wait.Signal i) h = subst (λ n. i.0 < n) (sym e.signals) h
  still_waits (wait.Csend z) h = h
  still_waits (wait.Crecv z) h = h

  still_state : (state : DispState) → StateNames s x state → StateNames s y state
  still_state (disp.Waits w) h = still_waits w h
  still_state state h = tt

  -- what each list of the changed block names exists
  pub names_now : EachCap (λ slot cap. Names s x cap.kind) y.parts.caps → Each y.states (λ d state. StateNames s x state) → Each y.parts.timers (λ i (t : Timer). t.signal.0 < length x.parts.signals) →
      Each y.parts.signals (λ i o. IfSome o (λ (l : Latch). SourceNames s l.source)) → BlockNames s y
  names_now caps waiters timers latches = record {
    caps = λ i h g. still_names h.cap.kind (caps i h g);
    waiters = λ d state g. still_state state (waiters d state g);
    timers = λ i t g. subst (λ n. t.signal.0 < n) (sym e.signals) (timers i t g);
    latches = latches;
  }

module _ (s : State) (x : ControlBlock) (h : BlockNames s x) where
  abbrev CapNames : ℕ → Cap → Type 0
  CapNames slot cap = Names s x cap.kind

  abbrev LatchNames : Option Latch → Type 0
  LatchNames o = IfSome o (λ (l : Latch). SourceNames s l.source)

  pub held_names : (k : CapKind) → Holds x.parts k → Names s x k
  held_names k w = subst (Names s x) w.3 (cap_holds CapNames x.parts.caps w.0 w.1 h.caps w.2)

  may_name : (d : ℕ) (w : Wait) → MayWait x d w → WaitNames s x w
  may_name d (wait.Send p) m = held_names (kind.Port p) m
  may_name d (wait.Recv p) m = held_names (kind.Port p) m
  may_name d (wait.Signal i) m = held_names (kind.Signal i) m
  may_name d (wait.Csend z) m = held_names (kind.SendEnd z) m.0
  may_name d (wait.Crecv z) m = held_names (kind.RecvEnd z) m.0

  woken_names : (w : Wait) (state : DispState) → StateNames s x state → StateNames s x (state_after_wake w state)
  woken_names w state k = by_test (waits_so w state)
    where
      by_test : (t : Bool) → StateNames s x (if t then disp.Ready else state)
      by_test true = tt
      by_test false = k

  still_named : (state : DispState) → IsStill state → StateNames s x state
  still_named (disp.Waits w) f = absurd f
  still_named state f = tt

  latched_names : (l : Latch) (o : Option Latch) → SourceNames s l.source → LatchNames o → LatchNames (signal_after l o)
  latched_names l None n k = n
  latched_names l (Some m) n k = k

  pub signals_named : (signal : ℕ) (l : Latch) → SourceNames s l.source → Each (signals_after signal l x.parts.signals) (λ i o. LatchNames o)
  unfolding signals_after
  signals_named signal l n = each-change (λ i o. LatchNames o) (signal_after l) signal x.parts.signals h.latches (λ o k. latched_names l o n k)

  -- memory within a Ram
  part_names : (into_frame : Bool) (f l offset size : ℕ) → Names s x (kind.Ram f l) → 0 < size → offset + size ≤ l → Names s x (if into_frame then kind.Frame (f + offset) size else kind.Ram (f + offset) size)
  part_names true f l offset size n some fits = let m = n.1 in (some, omega (arith, m, fits))
  part_names false f l offset size n some fits = let m = n.1 in (some, omega (arith, m, fits))

pub keeps_names : (s : State) → StepKeeps s (BlockNames s)
keeps_names s d C x y (woken _ w) h = names_now s x y (same_shape s d C x y (woken x w)) h.caps (each_map (StateNames s x) (StateNames s x) (state_after_wake w) (woken_names s x h w) x.states h.waiters) h.timers h.latches
keeps_names s d C x y (stands_still _ state f) h = names_now s x y (same_shape s d C x y (stands_still x state f)) h.caps (each-set (λ d state. StateNames s x state) x.states d state h.waiters (still_named s x h state f)) h.timers h.latches
keeps_names s d C x y (held_up _ w f) h = names_now s x y (same_shape s d C x y (held_up x w f)) h.caps (each-set (λ d state. StateNames s x state) x.states d (disp.Waits w) h.waiters (may_name s x h d w f)) h.timers h.latches
keeps_names s d C x y (fired _ i t f) h =
    names_now s x y (same_shape s d C x y (fired x i t f)) h.caps h.waiters (each_filter (λ (u : Timer). u.signal.0 < length x.parts.signals) (λ (u : Timer). not (u.number == t.number)) x.parts.timers h.timers) (signals_named s x h t.signal.0 (timer_latch t) tt)
keeps_names s d C x y (latched _ signal l n w f g) h = names_now s x y (same_shape s d C x y (latched x signal l n w f g)) h.caps h.waiters h.timers (signals_named s x h signal (line_latch l n) (slice_get_within s.lines l w f))
keeps_names s d C x y (latch_taken _ code c signal b l r f) h =
    names_now s x y (same_shape s d C x y (latch_taken x code c signal b l r f)) h.caps h.waiters h.timers (each-set (λ i o. LatchNames s x h o) x.parts.signals signal None h.latches tt)
keeps_names s d C x y (armed _ deadline signal value r f g) h =
    names_now s x y (same_shape s d C x y (armed x deadline signal value r f g)) h.caps h.waiters (each-append (λ i (t : Timer). t.signal.0 < length x.parts.signals) x.parts.timers _ h.timers (held_names s x h (kind.Signal (record { 0 = signal })) f)) h.latches
keeps_names s d C x y (copied _ from slot mask cap e free within) h =
    names_now s x y (same_shape s d C x y (copied x from slot mask cap e free within))
    (each_put (record { slot = slot; cap = with_mask mask cap; parent = Some from }) (λ (k : Seat). Names s x k.cap.kind) x.parts.caps (cap_holds (CapNames s x h) x.parts.caps from cap h.caps e) h.caps) h.waiters h.timers h.latches
keeps_names s d C x y (retyped _ from slot into_frame f l offset size cap e k some fits free within) h =
    let n : Names s x (kind.Ram f l) = subst (Names s x) k (cap_holds (CapNames s x h) x.parts.caps from cap h.caps e) in
    names_now s x y (same_shape s d C x y (retyped x from slot into_frame f l offset size cap e k some fits free within))
    (each_put (record { slot = slot; cap = memory_cap into_frame (f + offset) size cap.rights; parent = Some from }) (λ (k : Seat). Names s x k.cap.kind) x.parts.caps (part_names s x h into_frame f l offset size n some fits) h.caps) h.waiters h.timers h.latches
keeps_names s d C x y (deleted _ slot) h = names_now s x y (same_shape s d C x y (deleted x slot)) (each_deleted (CapNames s x h) slot x.parts.caps h.caps) h.waiters h.timers h.latches
keeps_names s d C x y (revoked _ slot) h = names_now s x y (same_shape s d C x y (revoked x slot)) (each_revoked (CapNames s x h) slot x.parts.caps h.caps) h.waiters h.timers h.latches
keeps_names s d C x y (given _ l) h = names_now s x y (same_shape s d C x y (given x l)) (each_given (CapNames s x h) l x.parts.caps h.caps) h.waiters h.timers h.latches
keeps_names s d C x y (claimed _ l slot z rights w q g free within allowed) h =
    names_now s x y (same_shape s d C x y (claimed x l slot z rights w q g free within allowed))
    (each_put (record { slot = slot; cap = record { kind = kind.Line (record { 0 = l }); rights = rights }; parent = None }) (λ (k : Seat). Names s x k.cap.kind) x.parts.caps (slice_get_within s.lines l w q) h.caps) h.waiters h.timers h.latches
keeps_names s d C x y st h = names_now s x y (same_shape s d C x y st) h.caps h.waiters h.timers h.latches
