-- What a slice does to the timers, the signals, the dues and the periods of its block.
use Rattle.std.proofs.Common.{◌≡◌, ℕ, zero, suc, ◌+◌, List, [], ◌∷◌, ◌++◌, Bool, true, false, Option, Some, None, refl, sym, ap, ◌∙◌, subst, length}
use Rattle.std.specs.Prelude.{slice_get, slice_set, ◌/◌, ◌%◌, nat_lt, nat_le, ◌==◌, ◌&&◌, ◌||◌, not, if◌then◌else◌, is_none, ⊤}
use Rattle.dc_base.specs.declared.calls.Need.{Need}
use Rattle.dc_base.specs.declared.calls.Op.{Op}
use Rattle.dc_base.specs.declared.capabilities.Cap.{Cap}
use Rattle.dc_base.specs.declared.capabilities.CapKind.{CapKind}
use Rattle.dc_base.specs.declared.instructions.Instr.{Instr}
use Rattle.dc_base.specs.declared.instructions.Instr.TheVariants.{Out, Yield, Send, Recv, Csend, Crecv, Wait, Arm, Copy, Retype, Delete, Revoke, Bind, Give, Claim}
use Rattle.dc_base.specs.declared.interrupts.Latch.{Latch}
use Rattle.dc_base.specs.declared.interrupts.Source.TheVariants as source
use Rattle.dc_base.specs.declared.interrupts.Timer.{Timer}
use Rattle.dc_base.specs.declared.dispatchers.Wait.{Wait as Waiting}
use Rattle.dc_base.specs.declared.messages.Message.{Message}
use Rattle.dc_base.specs.declared.kernels.Version.{Version}
use Rattle.dc_base.specs.Ahead.{Ahead, AheadEnd, at_quantum, at_halt, at_trap, at_call, ahead, ahead_from}
use Rattle.dc_base.specs.Capabilities.{is_used, slot_number, is_ram, is_frame, is_port, is_signal, is_line, is_send_end, is_recv_end, has_child_within, read_right, write_right, grant_right, is_other, lacks}
use Rattle.dc_base.specs.Channels.{Ring, ring_after_send, ring_after_take}
use Rattle.dc_base.specs.ControlBlocks.{ControlBlock}
use Rattle.dc_base.specs.Effects.{Context, reg, at_next_place, Move, goes, halts, traps, calls, act}
use Rattle.dc_base.specs.Firing.{wake, wake_if, latch_in, after_firing, fire_if, fire_from, fire_all}
use Rattle.dc_base.specs.Kernel.{Call, faults, waits, makes, takes, prints, sends, receives, binds, gives, claims, number_in, first_in, length_in, with_next_place, with_end_and_frame, recv, take_latch, wait_call, arm_call, copy_call, with_copy, retype_call, claim_call, with_timer, cap_in, call_of}
use Rattle.dc_base.specs.Lines.{Wire, rights_over}
use Rattle.dc_base.specs.Parts.{Parts, words_at}
use Rattle.dc_base.specs.Limits.{port_room}
use Rattle.dc_base.specs.Ports.{messages_in, latch_at, ports_after_send, signals_after}
use Rattle.dc_base.specs.Serving.{need, Outside, console_outside, channel_outside, line_outside, Served, faulted, held_up, served, serve, serve_send, serve_receive, serve_claim}
use Rattle.dc_base.specs.Slices.{ready_last, Halfway, stopped, stands, after_served, with_ahead, after_ahead, halfway, due_after, slice_end, without_ready}
use Rattle.dc_base.specs.Timers.{due_timer, without_timer}
use Rattle.dc_base.specs.Words.{bind}

-- a slice's control block before its due grows
abbrev pub ended : ℕ → ℕ → ℕ → Halfway → Outside → ControlBlock
ended c n d (stopped x ran e) out = x
ended c n d (stands x ran o call) out = (after_served x d ran o (need call) out (serve c n call out)).control

pub end_is : (c n : ℕ) (v : Version) (d : ℕ) (h : Halfway) (out : Outside) → (slice_end c n v d h out).control ≡ due_after v d (ended c n d h out)
unfolding slice_end
end_is c n v d (stopped x ran e) out = refl
end_is c n v d (stands x ran o call) out = refl

-- what is asked of a block's timers, its next timer's number and its signals: before, and after a call at this time armed one more timer or took a latch
pub record TimerLaws (T U : List Timer → ℕ → List (Option Latch) → Type 0) (Fit : Context → List ℕ → Type 0) (time : ℕ) : Type 0 where
  pub fewer : (t : Timer) (ts : List Timer) (n : ℕ) (os : List (Option Latch)) → T ts n os → T (without_timer t ts) n (signals_after t.signal.0 (record { source = source.Timer; value = t.value }) os)
  pub weaker : (ts : List Timer) (n : ℕ) (os : List (Option Latch)) → T ts n os → U ts n os
  pub taken : (ts : List Timer) (n : ℕ) (os : List (Option Latch)) (i : ℕ) → T ts n os → U ts n (slice_set os i None)
  pub goes_on : (code : List ℕ) (c new : Context) (memory changed : List ℕ) → act time code c memory ≡ goes new changed → Fit c memory → Fit new changed
  pub armed : (c : Context) (memory : List ℕ) (b signal value n : ℕ) (ts : List Timer) (os : List (Option Latch)) → Fit c memory → T ts n os → U (ts ++ record { deadline = time + reg c b; number = n; signal = record { 0 = signal }; value = value } ∷ []) (n + 1) os

module _ (T U : List Timer → ℕ → List (Option Latch) → Type 0) (Fit : Context → List ℕ → Type 0) (time : ℕ) (laws : TimerLaws T U Fit time) where
  -- these dues and periods, and timers of which X holds
  pub record Has (X : List Timer → ℕ → List (Option Latch) → Type 0) (dues periods : List ℕ) (x : ControlBlock) : Type 0 where
    pub dues_are : x.dues ≡ dues
    pub periods_are : x.periods ≡ periods
    pub timers : X x.parts.timers x.parts.next_timer x.parts.signals

  -- the timers fire
  module _ (dues periods : List ℕ) (code : List (List ℕ)) (contexts : List Context) (memory : List ℕ) where
    pub record Fires (x : ControlBlock) : Type 0 where
      pub has : Has T dues periods x
      pub code_is : x.parts.code ≡ code
      pub contexts_are : x.parts.contexts ≡ contexts
      pub memory_is : x.parts.memory ≡ memory

    firing : (t : Timer) (x : ControlBlock) → Fires x → Fires (after_firing t x)
    unfolding latch_in wake
    firing t x h = record {
      has = record { dues_are = h.has.dues_are; periods_are = h.has.periods_are; timers = laws.fewer t x.parts.timers x.parts.next_timer x.parts.signals h.has.timers };
      code_is = h.code_is;
      contexts_are = h.contexts_are;
      memory_is = h.memory_is;
    }

    fired_by : (n : ℕ) (x : ControlBlock) → Fires x → ((y : ControlBlock) → Fires y → Fires (fire_from time n y).control) → (o : Option Timer) → Fires (fire_if (fire_from time n) x o).control
    fired_by n x h more None = h
    fired_by n x h more (Some t) = more (after_firing t x) (firing t x h)

    from_fires : (n : ℕ) (x : ControlBlock) → Fires x → Fires (fire_from time n x).control
    from_fires zero x h = h
    from_fires (suc n) x h = fired_by n x h (λ y k. from_fires n y k) (due_timer time x.parts.timers)

    pub all_fire : (x : ControlBlock) → Fires x → Fires (fire_all time x).control
    unfolding fire_all
    all_fire x h = from_fires _ x h

  -- the plain part
  ahead_by : (code : List ℕ) (n : ℕ) (c : Context) (memory : List ℕ) → Fit c memory → ((new : Context) (changed : List ℕ) → Fit new changed → Fit (ahead time code n new changed).context (ahead time code n new changed).memory) →
      (m : Move) → act time code c memory ≡ m → Fit (ahead_from (ahead time code n) c memory m).context (ahead_from (ahead time code n) c memory m).memory
  ahead_by code n c memory h more (goes new changed) q = more new changed (laws.goes_on code c new memory changed q h)
  ahead_by code n c memory h more halts q = h
  ahead_by code n c memory h more (traps x) q = h
  ahead_by code n c memory h more (calls o i) q = h

  ahead_fits : (code : List ℕ) (n : ℕ) (c : Context) (memory : List ℕ) → Fit c memory → Fit (ahead time code n c memory).context (ahead time code n c memory).memory
  ahead_fits code zero c memory h = h
  ahead_fits code (suc n) c memory h = ahead_by code n c memory h (λ new changed k. ahead_fits code n new changed k) (act time code c memory) refl

  -- a call

  abbrev After : Parts → Type 0
  After p = U p.timers p.next_timer p.signals

  abbrev CallHas : Call → Type 0
  CallHas (faults x) = ⊤
  CallHas (waits w) = ⊤
  CallHas (makes w p) = After p
  CallHas (takes l p) = After p
  CallHas (prints w p) = After p
  CallHas (sends x m p) = After p
  CallHas (receives x address p) = After p
  CallHas (binds l signal p) = After p
  CallHas (gives l x rights p) = After p
  CallHas (claims l x slot p) = After p

  if_has : (t : Bool) (n : ℕ) (call : Call) → CallHas call → CallHas (if t then faults n else call)
  if_has true n call h = tt
  if_has false n call h = h

  frame_has : (is_end : CapKind → Bool) (end_right frame_right imm : ℕ) (a b : Option Cap) (call : Call) → CallHas call → CallHas (with_end_and_frame is_end end_right frame_right imm a b call)
  frame_has is_end end_right frame_right imm a b call h =
      if_has (is_none a || is_none b) 4 _ (if_has (is_other is_end a || is_other is_frame b) 6 _ (if_has (lacks end_right a || lacks frame_right b) 7 _ (if_has (nat_lt (length_in b) (imm + 4)) 8 call h)))

  if_makes : (t : Bool) (w : Option Waiting) (u : Waiting) (p : Parts) → After p → CallHas (if t then makes w p else waits u)
  if_makes true w u p h = h
  if_makes false w u p h = tt

  recv_has : (q address : ℕ) (p : Parts) → After p → (ms : List Message) → CallHas (recv q address p ms)
  recv_has q address p h [] = tt
  recv_has q address p h (m ∷ ms) = h

  latch_has : (d s b : ℕ) (c : Context) (p : Parts) → T p.timers p.next_timer p.signals → (l : Option Latch) → CallHas (take_latch d s b c p l)
  latch_has d s b c p h None = tt
  latch_has d s b c p h (Some l) = laws.taken p.timers p.next_timer p.signals s h

  copy_has : (from slot mask : ℕ) (p : Parts) → After p → (a : Option Cap) → After (with_copy from slot mask p a)
  copy_has from slot mask p h None = h
  copy_has from slot mask p h (Some cap) = h

  wait_has : (d b : ℕ) (c : Context) (p : Parts) → T p.timers p.next_timer p.signals → (a : Option Cap) → CallHas (wait_call d b c p a)
  wait_has d b c p h a = if_has (is_none a) 4 _ (if_has (is_other is_signal a) 6 _ (if_has (lacks read_right a) 7 _ (latch_has d (number_in a) b c p h (latch_at p.signals (number_in a)))))

  arm_has : (deadline value : ℕ) (p : Parts) → ((signal : ℕ) → After (with_timer deadline signal value p)) → (a : Option Cap) → CallHas (arm_call deadline value p a)
  arm_has deadline value p h a = if_has (is_none a) 4 _ (if_has (is_other is_signal a) 6 _ (if_has (lacks write_right a) 7 _ (if_has (nat_le 64 (length p.timers)) 10 _ (h (number_in a)))))

  copy_call_has : (d to from slot mask : ℕ) (p : Parts) → After p → (a : Option Cap) → CallHas (copy_call d to from slot mask p a)
  copy_call_has d to from slot mask p h a =
      if_has (is_none a) 4 _ (if_has (is_used p.caps slot) 5 _ (if_has (not (to == d) && lacks grant_right a) 7 _ (if_has (nat_le (length p.code) to) 8 _ (copy_has from slot mask p h a))))

  retype_has : (from slot : ℕ) (into_frame : Bool) (offset size : ℕ) (p : Parts) → After p → (a : Option Cap) → CallHas (retype_call from slot into_frame offset size p a)
  retype_has from slot into_frame offset size p h a =
      if_has (is_none a) 4 _ (if_has (is_used p.caps slot) 5 _ (if_has (is_other is_ram a) 6 _ (if_has (lacks write_right a) 7 _
      (if_has (size == 0 || nat_lt (length_in a) (offset + size)) 8 _ (if_has (has_child_within p.caps from (first_in a + offset) size) 9 _ h)))))

  two_has : (is_one is_two : CapKind → Bool) (r t : ℕ) (a b : Option Cap) (call : Call) → CallHas call →
      CallHas (if is_none a || is_none b then faults 4 else if is_other is_one a || is_other is_two b then faults 6 else if lacks r a || lacks t b then faults 7 else call)
  two_has is_one is_two r t a b call h = if_has (is_none a || is_none b) 4 _ (if_has (is_other is_one a || is_other is_two b) 6 _ (if_has (lacks r a || lacks t b) 7 call h))

  claim_has : (line slot : ℕ) (p : Parts) → After p → (a : Option Cap) → CallHas (claim_call line slot p a)
  claim_has line slot p h a = if_has (is_none a) 4 _ (if_has (is_used p.caps slot) 5 _ (if_has (is_other is_recv_end a) 6 _ (if_has (lacks read_right a) 7 (claims line (number_in a) slot p) h)))

  call_has : (d : ℕ) (c : Context) (memory : List ℕ) (i : Instr) (p : Parts) → Fit c memory → T p.timers p.next_timer p.signals → CallHas (call_of time d c i p)
  unfolding call_of
  call_has d c memory (Out a) p f h = laws.weaker _ _ _ h
  call_has d c memory Yield p f h = laws.weaker _ _ _ h
  call_has d c memory (Send a b imm) p f h =
      frame_has is_port write_right read_right imm (cap_in d p a) (cap_in d p b) _
      (if_makes (nat_lt (length (messages_in p.ports (number_in (cap_in d p a)))) port_room) _ _ (record p { contexts = slice_set p.contexts d (at_next_place c); ports = ports_after_send (number_in (cap_in d p a)) (words_at p.memory (first_in (cap_in d p b) + imm)) p.ports }) (laws.weaker _ _ _ h))
  call_has d c memory (Recv a b imm) p f h =
      frame_has is_port read_right write_right imm (cap_in d p a) (cap_in d p b) _
      (recv_has (number_in (cap_in d p a)) (first_in (cap_in d p b) + imm) (with_next_place d c p) (laws.weaker _ _ _ h) (messages_in p.ports (number_in (cap_in d p a))))
  call_has d c memory (Csend a b imm) p f h =
      frame_has is_send_end write_right read_right imm (cap_in d p a) (cap_in d p b)
      (sends (number_in (cap_in d p a)) (words_at p.memory (first_in (cap_in d p b) + imm)) (with_next_place d c p)) (laws.weaker _ _ _ h)
  call_has d c memory (Crecv a b imm) p f h =
      frame_has is_recv_end read_right write_right imm (cap_in d p a) (cap_in d p b)
      (receives (number_in (cap_in d p a)) (first_in (cap_in d p b) + imm) (with_next_place d c p)) (laws.weaker _ _ _ h)
  call_has d c memory (Wait a b) p f h = wait_has d b c p h (cap_in d p a)
  call_has d c memory (Arm a b imm) p f h = arm_has (time + reg c b) imm (with_next_place d c p) (λ signal. laws.armed c memory b signal imm p.next_timer p.timers p.signals f h) (cap_in d p a)
  call_has d c memory (Copy a b imm) p f h = copy_call_has d (imm / 16) (slot_number d a) (slot_number (imm / 16) b) (imm % 16) (with_next_place d c p) (laws.weaker _ _ _ h) (cap_in d p a)
  call_has d c memory (Retype a b imm) p f h = retype_has (slot_number d a) (slot_number d b) (imm == 1) (reg c 6) (reg c 7) (with_next_place d c p) (laws.weaker _ _ _ h) (cap_in d p a)
  call_has d c memory (Delete a) p f h = if_has (is_none (cap_in d p a)) 4 _ (laws.weaker _ _ _ h)
  call_has d c memory (Revoke a) p f h = if_has (is_none (cap_in d p a)) 4 _ (laws.weaker _ _ _ h)
  call_has d c memory (Bind a b) p f h = two_has is_line is_signal write_right write_right (cap_in d p a) (cap_in d p b) _ (laws.weaker _ _ _ h)
  call_has d c memory (Give a b) p f h = two_has is_send_end is_line write_right grant_right (cap_in d p a) (cap_in d p b) _ (laws.weaker _ _ _ h)
  call_has d c memory (Claim a b imm) p f h = claim_has imm (slot_number d b) (with_next_place d c p) (laws.weaker _ _ _ h) (cap_in d p a)
  call_has d c memory i p f h = tt

  -- the slice up to its call, and its end

  abbrev ServedHas : Served → Type 0
  ServedHas (faulted x) = ⊤
  ServedHas (held_up w) = ⊤
  ServedHas (served w p new) = After p

  if_served : (t : Bool) (n : ℕ) (a : Served) → ServedHas a → ServedHas (if t then a else faulted n)
  if_served true n a h = h
  if_served false n a h = tt

  send_served : (x : ℕ) (p : Parts) → After p → (r : Option Ring) → ServedHas (serve_send x p r)
  send_served x p h None = tt
  send_served x p h (Some new) = h

  receive_served : (x address : ℕ) (p : Parts) → After p → (r : Option (Message × Ring)) → ServedHas (serve_receive x address p r)
  receive_served x address p h None = tt
  receive_served x address p h (Some got) = h

  claim_served : (l slot : ℕ) (p : Parts) (w : Wire) → After p → (r : Option ℕ) → ServedHas (serve_claim l slot p w r)
  claim_served l slot p w h None = tt
  claim_served l slot p w h (Some rights) = h

  serve_has : (c n : ℕ) (call : Call) (out : Outside) → CallHas call → ServedHas (serve c n call out)
  unfolding serve
  serve_has c n (faults x) out h = tt
  serve_has c n (waits w) out h = tt
  serve_has c n (makes w p) out h = h
  serve_has c n (takes l p) out h = h
  serve_has c n (prints w p) (console_outside ws) h = if_served (nat_lt (length ws) 65536) 11 (served None p (console_outside (ws ++ w ∷ []))) h
  serve_has c n (prints w p) out h = tt
  serve_has c n (sends x m p) (channel_outside r) h = send_served x p h (ring_after_send r m)
  serve_has c n (sends x m p) out h = tt
  serve_has c n (receives x address p) (channel_outside r) h = receive_served x address p h (ring_after_take r)
  serve_has c n (receives x address p) out h = tt
  serve_has c n (binds l signal p) (line_outside w) h = h
  serve_has c n (binds l signal p) out h = tt
  serve_has c n (gives l x rights p) (line_outside w) h = h
  serve_has c n (gives l x rights p) out h = tt
  serve_has c n (claims l x slot p) (line_outside w) h = claim_served l slot p w h (rights_over x w.offer)
  serve_has c n (claims l x slot p) out h = tt

  module _ (dues periods : List ℕ) where
    abbrev HalfHas : Halfway → Type 0
    HalfHas (stopped x ran e) = Has U dues periods x
    HalfHas (stands x ran o call) = Has T dues periods x × CallHas call

    ended_half : (x : ControlBlock) (d : ℕ) (a : Ahead) (e : AheadEnd) → Has T dues periods x → Fit a.context a.memory → HalfHas (after_ahead time x d a e)
    ended_half x d a at_quantum h f = record { dues_are = h.dues_are; periods_are = h.periods_are; timers = laws.weaker _ _ _ h.timers }
    ended_half x d a at_halt h f = record { dues_are = h.dues_are; periods_are = h.periods_are; timers = laws.weaker _ _ _ h.timers }
    ended_half x d a (at_trap y) h f = record { dues_are = h.dues_are; periods_are = h.periods_are; timers = laws.weaker _ _ _ h.timers }
    ended_half x d a (at_call o i) h f = (record { dues_are = h.dues_are; periods_are = h.periods_are; timers = h.timers }, call_has d a.context a.memory i (with_ahead x d a).parts f h.timers)

    context_has : (quantum : ℕ) (x : ControlBlock) (d : ℕ) (h : Halfway) → Has T dues periods x → (code : List ℕ) (o : Option Context) → ((c : Context) → o ≡ Some c → Fit c x.parts.memory) →
        bind o (λ c. Some (after_ahead time x d (ahead time code quantum c x.parts.memory) (ahead time code quantum c x.parts.memory).end)) ≡ Some h → HalfHas h
    context_has quantum x d h w code None f e = absurd cc
    context_has quantum x d h w code (Some c) f e =
        let a = ahead time code quantum c x.parts.memory in
        let same : after_ahead time x d a a.end ≡ h = cc in
        subst HalfHas same (ended_half x d a a.end w (ahead_fits code quantum c x.parts.memory (f c refl)))

    code_has : (quantum : ℕ) (x : ControlBlock) (d : ℕ) (h : Halfway) → Has T dues periods x → (o : Option (List ℕ)) → ((c : Context) → slice_get x.parts.contexts d ≡ Some c → Fit c x.parts.memory) →
        bind o (λ code. bind (slice_get x.parts.contexts d) (λ c. Some (after_ahead time x d (ahead time code quantum c x.parts.memory) (ahead time code quantum c x.parts.memory).end))) ≡ Some h → HalfHas h
    code_has quantum x d h w None f e = absurd cc
    code_has quantum x d h w (Some code) f e = context_has quantum x d h w code (slice_get x.parts.contexts d) f e

    half_has : (quantum : ℕ) (x : ControlBlock) (d : ℕ) (h : Halfway) → Has T dues periods x → ((c : Context) → slice_get x.parts.contexts d ≡ Some c → Fit c x.parts.memory) → halfway quantum time x d ≡ Some h → HalfHas h
    unfolding halfway
    half_has quantum x d h w f e = code_has quantum x d h w (slice_get x.parts.code d) f e

    woken_has : (d : ℕ) (w : Option Waiting) (x : ControlBlock) → Has U dues periods x → Has U dues periods (ready_last d (wake_if w x))
    unfolding wake
    woken_has d None x h = record { dues_are = h.dues_are; periods_are = h.periods_are; timers = h.timers }
    woken_has d (Some w) x h = record { dues_are = h.dues_are; periods_are = h.periods_are; timers = h.timers }

    served_has : (x : ControlBlock) (d ran : ℕ) (o : Op) (n : Need) (out : Outside) (a : Served) → Has T dues periods x → ServedHas a → Has U dues periods (after_served x d ran o n out a).control
    served_has x d ran o n out (faulted y) h f = record { dues_are = h.dues_are; periods_are = h.periods_are; timers = laws.weaker _ _ _ h.timers }
    served_has x d ran o n out (held_up w) h f = record { dues_are = h.dues_are; periods_are = h.periods_are; timers = laws.weaker _ _ _ h.timers }
    served_has x d ran o n out (served w p new) h f = woken_has d w (record x { parts = p }) (record { dues_are = h.dues_are; periods_are = h.periods_are; timers = f })

    ended_has : (c n d : ℕ) (h : Halfway) (out : Outside) → HalfHas h → Has U dues periods (ended c n d h out)
    ended_has c n d (stopped x ran e) out h = h
    ended_has c n d (stands x ran o call) out h = served_has x d ran o (need call) out (serve c n call out) h.0 (serve_has c n call out h.1)

  -- the timers fire and dispatcher d runs: the dues and periods are as they were, before the due of d grows
  pub slice_has : (quantum c n : ℕ) (x : ControlBlock) (d : ℕ) (h : Halfway) (out : Outside) → T x.parts.timers x.parts.next_timer x.parts.signals → ((c : Context) → slice_get x.parts.contexts d ≡ Some c → Fit c x.parts.memory) →
      halfway quantum time (without_ready d (fire_all time x).control) d ≡ Some h → Has U x.dues x.periods (ended c n d h out)
  slice_has quantum c n x d h out t f e =
      let fires = all_fire x.dues x.periods x.parts.code x.parts.contexts x.parts.memory x (record { has = record { dues_are = refl; periods_are = refl; timers = t }; code_is = refl; contexts_are = refl; memory_is = refl }) in
      let y = without_ready d (fire_all time x).control in
      let had : Has T x.dues x.periods y = record { dues_are = fires.has.dues_are; periods_are = fires.has.periods_are; timers = fires.has.timers } in
      ended_has x.dues x.periods c n d h out
      (half_has x.dues x.periods quantum y d h had (λ c q. subst (Fit c) (sym fires.memory_is) (f c (ap (λ cs. slice_get cs d) (sym fires.contexts_are) ∙ q))) e)

  -- the timers fire, and no dispatcher runs
  pub fired_has : (x : ControlBlock) → T x.parts.timers x.parts.next_timer x.parts.signals → Has T x.dues x.periods (fire_all time x).control
  fired_has x t = (all_fire x.dues x.periods x.parts.code x.parts.contexts x.parts.memory x (record { has = record { dues_are = refl; periods_are = refl; timers = t }; code_is = refl; contexts_are = refl; memory_is = refl })).has
