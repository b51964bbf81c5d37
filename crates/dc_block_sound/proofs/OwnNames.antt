-- What a control block names of its own exists, and stays so.
use Rattle.std.proofs.Common.{ℕ, ◌+◌, ◌<◌, ◌≤◌, Bool, true, false, Some, None, sym, subst, arith, length}
use Rattle.std.specs.Prelude.{◌==◌, not, if◌then◌else◌}
use Rattle.dc_base.specs.declared.capabilities.Cap.{Cap}
use Rattle.dc_base.specs.declared.capabilities.CapKind.{CapKind}
use Rattle.dc_base.specs.declared.capabilities.CapKind.TheVariants as kind
use Rattle.dc_base.specs.declared.dispatchers.DispState.{DispState}
use Rattle.dc_base.specs.declared.dispatchers.DispState.TheVariants as disp
use Rattle.dc_base.specs.declared.dispatchers.Wait.{Wait}
use Rattle.dc_base.specs.declared.dispatchers.Wait.TheVariants as wait
use Rattle.dc_base.specs.declared.interrupts.Timer.{Timer}
use Rattle.dc_base.specs.Words.{Each}
use Rattle.dc_base.specs.ControlBlocks.{ControlBlock}
use Rattle.dc_base.specs.Capabilities.{Seat}
use Rattle.dc_base.specs.Firing.{waits_so, state_after_wake}
use Rattle.dc_base.specs.Kernel.{with_mask, memory_cap}
use Rattle.dc_base.specs.Named.{Names, StateNames, BlockNames}
use Rattle.dc_base.specs.States.{State}
use Rattle.dc_base.proofs.EachLaws.{each-set, each-append}
use Rattle.dc_block_sound.specs.SoundControls.{NamesOwn, WaitsOwn, NamesWithin}
use Rattle.dc_base.proofs.Ascending.{each_filter}
use Rattle.dc_block_sound.proofs.CapForms.{each_deleted, each_revoked, each_given}
use Rattle.dc_block_sound.proofs.ControlSteps.{Holds, MayWait, IsStill, woken, stands_still, held_up, fired, armed, copied, retyped, deleted, revoked, given, claimed, StepKeeps}
use Rattle.dc_block_sound.proofs.Forms.{SameShape, same_shape, each_map}
use Rattle.dc_block_sound.proofs.Seats.{EachCap, cap_holds, each_put}

-- names hold on where as many ports and signals are

module _ (x y : ControlBlock) (e : SameShape x y) where
  still_own : (k : CapKind) → NamesOwn x k → NamesOwn y k
  still_own (kind.Ram f l) h = h
  still_own (kind.Frame f l) h = h
  still_own (kind.Port p) h = subst (λ n. p.0 < n) (sym e.ports) h
  still_own (kind.Signal i) h = subst (λ n. i.0 < n) (sym e.signals) h
  still_own k h = tt

  still_waits : (state : DispState) → WaitsOwn x state → WaitsOwn y state
  still_waits (disp.Waits (wait.Send p)) h = subst (λ n. p.0 < n) (sym e.ports) h
  still_waits (disp.Waits (wait.Recv p)) h = subst (λ n. p.0 < n) (sym e.ports) h
  still_waits (disp.Waits (wait.Signal i)) h = subst (λ n. i.0 < n) (sym e.signals) h
  still_waits state h = tt

  -- what each list of the changed block names exists
  pub own_now : EachCap (λ slot cap. NamesOwn x cap.kind) y.parts.caps → Each y.states (λ d state. WaitsOwn x state) → Each y.parts.timers (λ i (t : Timer). t.signal.0 < length x.parts.signals) → NamesWithin y
  own_now caps waiters timers = record {
    caps = λ i h g. still_own h.cap.kind (caps i h g);
    waiters = λ d state g. still_waits state (waiters d state g);
    timers = λ i t g. subst (λ n. t.signal.0 < n) (sym e.signals) (timers i t g);
  }

module _ (x : ControlBlock) (h : NamesWithin x) where
  abbrev CapOwn : ℕ → Cap → Type 0
  CapOwn slot cap = NamesOwn x cap.kind

  held_own : (k : CapKind) → Holds x.parts k → NamesOwn x k
  held_own k w = subst (NamesOwn x) w.3 (cap_holds CapOwn x.parts.caps w.0 w.1 h.caps w.2)

  may_own : (d : ℕ) (w : Wait) → MayWait x d w → WaitsOwn x (disp.Waits w)
  may_own d (wait.Send p) m = held_own (kind.Port p) m
  may_own d (wait.Recv p) m = held_own (kind.Port p) m
  may_own d (wait.Signal i) m = held_own (kind.Signal i) m
  may_own d w m = tt

  woken_own : (w : Wait) (state : DispState) → WaitsOwn x state → WaitsOwn x (state_after_wake w state)
  woken_own w state k = by_test (waits_so w state)
    where
      by_test : (t : Bool) → WaitsOwn x (if t then disp.Ready else state)
      by_test true = tt
      by_test false = k

  still_owned : (state : DispState) → IsStill state → WaitsOwn x state
  still_owned (disp.Waits w) f = absurd f
  still_owned state f = tt

  -- memory within a Ram
  part_own : (into_frame : Bool) (f l offset size : ℕ) → NamesOwn x (kind.Ram f l) → 0 < size → offset + size ≤ l → NamesOwn x (if into_frame then kind.Frame (f + offset) size else kind.Ram (f + offset) size)
  part_own true f l offset size n some fits = let m = n.1 in (some, omega (arith, m, fits))
  part_own false f l offset size n some fits = let m = n.1 in (some, omega (arith, m, fits))

pub keeps_own : (s : State) → StepKeeps s NamesWithin
keeps_own s d C x y (woken _ w) h = own_now x y (same_shape s d C x y (woken x w)) h.caps (each_map (WaitsOwn x) (WaitsOwn x) (state_after_wake w) (woken_own x h w) x.states h.waiters) h.timers
keeps_own s d C x y (stands_still _ state f) h = own_now x y (same_shape s d C x y (stands_still x state f)) h.caps (each-set (λ d state. WaitsOwn x state) x.states d state h.waiters (still_owned x h state f)) h.timers
keeps_own s d C x y (held_up _ w f) h = own_now x y (same_shape s d C x y (held_up x w f)) h.caps (each-set (λ d state. WaitsOwn x state) x.states d (disp.Waits w) h.waiters (may_own x h d w f)) h.timers
keeps_own s d C x y (fired _ i t f) h = own_now x y (same_shape s d C x y (fired x i t f)) h.caps h.waiters (each_filter (λ (u : Timer). u.signal.0 < length x.parts.signals) (λ (u : Timer). not (u.number == t.number)) x.parts.timers h.timers)
keeps_own s d C x y (armed _ deadline signal value r f g) h =
    own_now x y (same_shape s d C x y (armed x deadline signal value r f g)) h.caps h.waiters (each-append (λ i (t : Timer). t.signal.0 < length x.parts.signals) x.parts.timers _ h.timers (held_own x h (kind.Signal (record { 0 = signal })) f))
keeps_own s d C x y (copied _ from slot mask cap e free within) h =
    own_now x y (same_shape s d C x y (copied x from slot mask cap e free within))
    (each_put (record { slot = slot; cap = with_mask mask cap; parent = Some from }) (λ (k : Seat). NamesOwn x k.cap.kind) x.parts.caps (cap_holds (CapOwn x h) x.parts.caps from cap h.caps e) h.caps) h.waiters h.timers
keeps_own s d C x y (retyped _ from slot into_frame f l offset size cap e k some fits free within) h =
    let n : NamesOwn x (kind.Ram f l) = subst (NamesOwn x) k (cap_holds (CapOwn x h) x.parts.caps from cap h.caps e) in
    own_now x y (same_shape s d C x y (retyped x from slot into_frame f l offset size cap e k some fits free within))
    (each_put (record { slot = slot; cap = memory_cap into_frame (f + offset) size cap.rights; parent = Some from }) (λ (k : Seat). NamesOwn x k.cap.kind) x.parts.caps (part_own x h into_frame f l offset size n some fits) h.caps) h.waiters h.timers
keeps_own s d C x y (deleted _ slot) h = own_now x y (same_shape s d C x y (deleted x slot)) (each_deleted (CapOwn x h) slot x.parts.caps h.caps) h.waiters h.timers
keeps_own s d C x y (revoked _ slot) h = own_now x y (same_shape s d C x y (revoked x slot)) (each_revoked (CapOwn x h) slot x.parts.caps h.caps) h.waiters h.timers
keeps_own s d C x y (given _ l) h = own_now x y (same_shape s d C x y (given x l)) (each_given (CapOwn x h) l x.parts.caps h.caps) h.waiters h.timers
keeps_own s d C x y (claimed _ l slot z rights w q g free within allowed) h =
    own_now x y (same_shape s d C x y (claimed x l slot z rights w q g free within allowed))
    (each_put (record { slot = slot; cap = record { kind = kind.Line (record { 0 = l }); rights = rights }; parent = None }) (λ (k : Seat). NamesOwn x k.cap.kind) x.parts.caps tt h.caps) h.waiters h.timers
keeps_own s d C x y st h = own_now x y (same_shape s d C x y st) h.caps h.waiters h.timers

-- a block that names what exists in a state names what it has of its own

module _ (s : State) (x : ControlBlock) where
  own_of : (k : CapKind) → Names s x k → NamesOwn x k
  own_of (kind.Ram f l) h = h
  own_of (kind.Frame f l) h = h
  own_of (kind.Port p) h = h
  own_of (kind.Signal i) h = h
  own_of k h = tt

  waits_of : (state : DispState) → StateNames s x state → WaitsOwn x state
  waits_of (disp.Waits (wait.Send p)) h = h
  waits_of (disp.Waits (wait.Recv p)) h = h
  waits_of (disp.Waits (wait.Signal i)) h = h
  waits_of state h = tt

  pub names_own : BlockNames s x → NamesWithin x
  names_own h = record { caps = λ i k e. own_of k.cap.kind (h.caps i k e); waiters = λ d state e. waits_of state (h.waiters d state e); timers = h.timers }
