-- What a kernel call does to the signals of its block.
use Rattle.std.proofs.Common.{◌≡◌, ℕ, List, [], ◌∷◌, ◌++◌, Bool, true, false, Option, Some, None, refl}
use Rattle.std.specs.Prelude.{slice_set, if◌then◌else◌, ◌||◌, is_none, nat_lt, nat_le, ◌+◌, ◌/◌, ◌%◌, ◌==◌, ◌&&◌, not, length}
use Rattle.dc_base.specs.declared.capabilities.Cap.{Cap}
use Rattle.dc_base.specs.declared.capabilities.CapKind.{CapKind}
use Rattle.dc_base.specs.declared.instructions.Instr.{Instr}
use Rattle.dc_base.specs.declared.instructions.Instr.TheVariants.{Out, Yield, Send, Recv, Csend, Crecv, Wait, Arm, Copy, Retype, Delete, Revoke, Bind, Give, Claim}
use Rattle.dc_base.specs.declared.interrupts.Latch.{Latch}
use Rattle.dc_base.specs.declared.dispatchers.Wait.TheVariants as wait
use Rattle.dc_base.specs.declared.messages.Message.{Message}
use Rattle.dc_base.specs.Limits.{port_room}
use Rattle.dc_base.specs.Ports.{latch_at, messages_in, ports_after_send}
use Rattle.dc_base.specs.Parts.{Parts, words_at}
use Rattle.dc_base.specs.Kernel.{Call, faults, waits, makes, takes, prints, sends, receives, binds, gives, claims, call_of, with_end_and_frame, recv, take_latch, with_copy, with_next_place, number_in, first_in, length_in, cap_in, wait_call, arm_call, copy_call, retype_call, delete_call, revoke_call, bind_call, give_call, claim_call}
use Rattle.dc_base.specs.Channels.{Ring, ring_after_send, ring_after_take}
use Rattle.dc_base.specs.Lines.{Wire, rights_over}
use Rattle.dc_base.specs.Capabilities.{slot_number, is_used, has_child_within, is_other, is_ram, is_frame, is_port, is_signal, is_send_end, is_recv_end, is_line, read_right, write_right, grant_right, lacks}
use Rattle.dc_base.specs.Effects.{Context, reg}
use Rattle.dc_base.specs.Serving.{Outside, console_outside, channel_outside, line_outside, Served, faulted, served, serve_send, serve_receive, serve_claim, serve}

-- only a call that takes a latch changes a signal: it empties one that holds that latch
abbrev pub KeepsSignals : Parts → Call → Type 0
KeepsSignals p (faults n) = Unit {0}
KeepsSignals p (waits w) = Unit {0}
KeepsSignals p (makes w q) = q.signals ≡ p.signals
KeepsSignals p (takes l q) = (i : ℕ) × (latch_at p.signals i ≡ Some l) × (q.signals ≡ slice_set p.signals i None)
KeepsSignals p (prints w q) = q.signals ≡ p.signals
KeepsSignals p (sends x m q) = q.signals ≡ p.signals
KeepsSignals p (receives x address q) = q.signals ≡ p.signals
KeepsSignals p (binds l signal q) = q.signals ≡ p.signals
KeepsSignals p (gives l x rights q) = q.signals ≡ p.signals
KeepsSignals p (claims l x slot q) = q.signals ≡ p.signals

-- the faults of calls are from 4 on
abbrev pub IsHigh : Call → Type 0
IsHigh (faults n) = nat_lt 3 n ≡ true
IsHigh call = Unit {0}

pub record Keeps (p : Parts) (call : Call) : Type 0 where
  pub by : KeepsSignals p call
  pub high : IsHigh call

module _ (p : Parts) where
  or_fault : {call : Call} (t : Bool) (n : ℕ) → nat_lt 3 n ≡ true → Keeps p call → Keeps p (if t then faults n else call)
  or_fault true n f h = record { by = tt; high = f }
  or_fault false n f h = h

  end_and_frame : (is_end : CapKind → Bool) (end_right frame_right imm : ℕ) (a b : Option Cap) (call : Call) → Keeps p call → Keeps p (with_end_and_frame is_end end_right frame_right imm a b call)
  end_and_frame is_end end_right frame_right imm a b call h =
      or_fault (is_none a || is_none b) 4 refl (or_fault (is_other is_end a || is_other is_frame b) 6 refl (or_fault (lacks end_right a || lacks frame_right b) 7 refl (or_fault (nat_lt (length_in b) (imm + 4)) 8 refl h)))

  send_keeps : (q : ℕ) (m : Message) (r : Parts) → r.signals ≡ p.signals → (t : Bool) →
      Keeps p (if t then makes (Some (wait.Recv (record { 0 = q }))) (record r { ports = ports_after_send q m r.ports }) else waits (wait.Send (record { 0 = q })))
  send_keeps q m r h true = record { by = h; high = tt }
  send_keeps q m r h false = record { by = tt; high = tt }

  recv_keeps : (q address : ℕ) (r : Parts) (ms : List Message) → r.signals ≡ p.signals → Keeps p (recv q address r ms)
  recv_keeps q address r [] h = record { by = tt; high = tt }
  recv_keeps q address r (m ∷ ms) h = record { by = h; high = tt }

  take_keeps : (d s b : ℕ) (c : Context) (o : Option Latch) → latch_at p.signals s ≡ o → Keeps p (take_latch d s b c p o)
  take_keeps d s b c None e = record { by = tt; high = tt }
  take_keeps d s b c (Some l) e = record { by = (s, e, refl); high = tt }

  copy_keeps : (from slot mask : ℕ) (r : Parts) (a : Option Cap) → r.signals ≡ p.signals → Keeps p (makes None (with_copy from slot mask r a))
  copy_keeps from slot mask r None h = record { by = h; high = tt }
  copy_keeps from slot mask r (Some cap) h = record { by = h; high = tt }

  wait_keeps : (d b : ℕ) (c : Context) (a : Option Cap) → Keeps p (wait_call d b c p a)
  wait_keeps d b c a = or_fault (is_none a) 4 refl (or_fault (is_other is_signal a) 6 refl (or_fault (lacks read_right a) 7 refl (take_keeps d (number_in a) b c (latch_at p.signals (number_in a)) refl)))

  module _ (r : Parts) (same : r.signals ≡ p.signals) where
    arm_keeps : (deadline value : ℕ) (a : Option Cap) → Keeps p (arm_call deadline value r a)
    arm_keeps deadline value a = or_fault (is_none a) 4 refl (or_fault (is_other is_signal a) 6 refl (or_fault (lacks write_right a) 7 refl (or_fault (nat_le 64 (length r.timers)) 10 refl (record { by = same; high = tt }))))

    copy_call_keeps : (d to from slot mask : ℕ) (a : Option Cap) → Keeps p (copy_call d to from slot mask r a)
    copy_call_keeps d to from slot mask a = or_fault (is_none a) 4 refl (or_fault (is_used r.caps slot) 5 refl (or_fault (not (to == d) && lacks grant_right a) 7 refl (or_fault (nat_le (length r.code) to) 8 refl (copy_keeps from slot mask r a same))))

    retype_keeps : (from slot : ℕ) (f : Bool) (offset size : ℕ) (a : Option Cap) → Keeps p (retype_call from slot f offset size r a)
    retype_keeps from slot f offset size a =
        or_fault (is_none a) 4 refl (or_fault (is_used r.caps slot) 5 refl (or_fault (is_other is_ram a) 6 refl (or_fault (lacks write_right a) 7 refl (or_fault (size == 0 || nat_lt (length_in a) (offset + size)) 8 refl (or_fault (has_child_within r.caps from (first_in a + offset) size) 9 refl (record { by = same; high = tt }))))))

    delete_keeps : (slot : ℕ) (a : Option Cap) → Keeps p (delete_call slot r a)
    delete_keeps slot a = or_fault (is_none a) 4 refl (record { by = same; high = tt })

    revoke_keeps : (slot : ℕ) (a : Option Cap) → Keeps p (revoke_call slot r a)
    revoke_keeps slot a = or_fault (is_none a) 4 refl (record { by = same; high = tt })

    bind_keeps : (a b : Option Cap) → Keeps p (bind_call r a b)
    bind_keeps a b = or_fault (is_none a || is_none b) 4 refl (or_fault (is_other is_line a || is_other is_signal b) 6 refl (or_fault (lacks write_right a || lacks write_right b) 7 refl (record { by = same; high = tt })))

    give_keeps : (a b : Option Cap) → Keeps p (give_call r a b)
    give_keeps a b = or_fault (is_none a || is_none b) 4 refl (or_fault (is_other is_send_end a || is_other is_line b) 6 refl (or_fault (lacks write_right a || lacks grant_right b) 7 refl (record { by = same; high = tt })))

    claim_keeps : (l slot : ℕ) (a : Option Cap) → Keeps p (claim_call l slot r a)
    claim_keeps l slot a = or_fault (is_none a) 4 refl (or_fault (is_used r.caps slot) 5 refl (or_fault (is_other is_recv_end a) 6 refl (or_fault (lacks read_right a) 7 refl (record { by = same; high = tt }))))

  pub call_keeps : (time d : ℕ) (c : Context) (i : Instr) → Keeps p (call_of time d c i p)
  unfolding call_of
  call_keeps time d c (Out a) = record { by = refl; high = tt }
  call_keeps time d c Yield = record { by = refl; high = tt }
  call_keeps time d c (Send a b imm) = end_and_frame is_port write_right read_right imm (cap_in d p a) (cap_in d p b) _
      (send_keeps (number_in (cap_in d p a)) (words_at p.memory (first_in (cap_in d p b) + imm)) (with_next_place d c p) refl (nat_lt (length (messages_in p.ports (number_in (cap_in d p a)))) port_room))
  call_keeps time d c (Recv a b imm) = end_and_frame is_port read_right write_right imm (cap_in d p a) (cap_in d p b) _
      (recv_keeps (number_in (cap_in d p a)) (first_in (cap_in d p b) + imm) (with_next_place d c p) (messages_in p.ports (number_in (cap_in d p a))) refl)
  call_keeps time d c (Csend a b imm) = end_and_frame is_send_end write_right read_right imm (cap_in d p a) (cap_in d p b) _ (record { by = refl; high = tt })
  call_keeps time d c (Crecv a b imm) = end_and_frame is_recv_end read_right write_right imm (cap_in d p a) (cap_in d p b) _ (record { by = refl; high = tt })
  call_keeps time d c (Wait a b) = wait_keeps d b c (cap_in d p a)
  call_keeps time d c (Arm a b imm) = arm_keeps (with_next_place d c p) refl (time + reg c b) imm (cap_in d p a)
  call_keeps time d c (Copy a b imm) = copy_call_keeps (with_next_place d c p) refl d (imm / 16) (slot_number d a) (slot_number (imm / 16) b) (imm % 16) (cap_in d p a)
  call_keeps time d c (Retype a b imm) = retype_keeps (with_next_place d c p) refl (slot_number d a) (slot_number d b) (imm == 1) (reg c 6) (reg c 7) (cap_in d p a)
  call_keeps time d c (Delete a) = delete_keeps (with_next_place d c p) refl (slot_number d a) (cap_in d p a)
  call_keeps time d c (Revoke a) = revoke_keeps (with_next_place d c p) refl (slot_number d a) (cap_in d p a)
  call_keeps time d c (Bind a b) = bind_keeps (with_next_place d c p) refl (cap_in d p a) (cap_in d p b)
  call_keeps time d c (Give a b) = give_keeps (with_next_place d c p) refl (cap_in d p a) (cap_in d p b)
  call_keeps time d c (Claim a b imm) = claim_keeps (with_next_place d c p) refl imm (slot_number d b) (cap_in d p a)
  call_keeps time d c i = record { by = tt; high = refl }

abbrev pub IsHighServed : Served → Type 0
IsHighServed (faulted n) = nat_lt 3 n ≡ true
IsHighServed out = Unit {0}

printed_high : (ws : List ℕ) (w : ℕ) (p : Parts) (t : Bool) → IsHighServed (if t then served None p (console_outside (ws ++ w ∷ [])) else faulted 11)
printed_high ws w p true = tt
printed_high ws w p false = refl

sent_high : (x : ℕ) (p : Parts) (o : Option Ring) → IsHighServed (serve_send x p o)
sent_high x p None = tt
sent_high x p (Some r) = tt

taken_high : (x address : ℕ) (p : Parts) (o : Option (Message × Ring)) → IsHighServed (serve_receive x address p o)
taken_high x address p None = tt
taken_high x address p (Some r) = tt

claimed_high : (l slot : ℕ) (p : Parts) (w : Wire) (o : Option ℕ) → IsHighServed (serve_claim l slot p w o)
claimed_high l slot p w None = refl
claimed_high l slot p w (Some r) = tt

-- so are all refusals
pub serve_high : (c b : ℕ) (call : Call) (out : Outside) → IsHigh call → IsHighServed (serve c b call out)
unfolding serve
serve_high c b (faults n) out h = h
serve_high c b (waits w) out h = tt
serve_high c b (makes w p) out h = tt
serve_high c b (takes l p) out h = tt
serve_high c b (prints w p) (console_outside ws) h = printed_high ws w p (nat_lt (length ws) 65536)
serve_high c b (prints w p) out h = refl
serve_high c b (sends x m p) (channel_outside r) h = sent_high x p (ring_after_send r m)
serve_high c b (sends x m p) out h = tt
serve_high c b (receives x address p) (channel_outside r) h = taken_high x address p (ring_after_take r)
serve_high c b (receives x address p) out h = tt
serve_high c b (binds l signal p) (line_outside w) h = tt
serve_high c b (binds l signal p) out h = refl
serve_high c b (gives l x rights p) (line_outside w) h = tt
serve_high c b (gives l x rights p) out h = refl
serve_high c b (claims l x slot p) (line_outside w) h = claimed_high l slot p w (rights_over x w.offer)
serve_high c b (claims l x slot p) out h = refl
