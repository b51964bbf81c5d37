-- The object outside its block that a call needs.
use Rattle.std.proofs.Common.{◌≡◌, ℕ, ◌+◌, ◌<◌, ◌^◌, List, [], ◌∷◌, Bool, true, false, Option, Some, None, refl, sym, ap, ◌∙◌, subst, rules}
use Rattle.std.specs.Prelude.{IsTrue, length, nat_lt, nat_le, not, ◌==◌, ◌&&◌, ◌||◌, ◌/◌, ◌%◌, if◌then◌else◌, is_some, is_none}
use Rattle.std.specs.Option.{option_map}
use Rattle.dc_base.specs.declared.calls.Need.TheVariants.{Nothing}
use Rattle.dc_base.specs.declared.capabilities.Cap.{Cap}
use Rattle.dc_base.specs.declared.capabilities.CapKind.{CapKind}
use Rattle.dc_base.specs.declared.dispatchers.Wait.{Wait as Waiting}
use Rattle.dc_base.specs.declared.dispatchers.Wait.TheVariants as wait
use Rattle.dc_base.specs.declared.instructions.Instr.{Instr}
use Rattle.dc_base.specs.declared.instructions.Instr.TheVariants.{Li, Lih, Mov, Add, Sub, Mul, And, Or, Xor, Shl, Shr, Beq, Bne, Bltu, Jmp, Ld, St, Rdt, Nop, Halt, Out, Yield, Send, Recv, Csend, Crecv, Wait, Arm, Copy, Retype, Delete, Revoke, Bind, Give, Claim}
use Rattle.dc_base.specs.declared.interrupts.Latch.{Latch}
use Rattle.dc_base.specs.declared.messages.Message.{Message}
use Rattle.dc_base.specs.Instructions.{are_slots}
use Rattle.dc_base.specs.Effects.{Context, reg}
use Rattle.dc_base.specs.Capabilities.{Seat, seat_at, cap_at, is_used, slot_number, with_child, has_child_within, is_ram, is_frame, is_port, is_signal, is_other, lacks, read_right, write_right, grant_right}
use Rattle.dc_base.specs.Parts.{Parts, words_at}
use Rattle.dc_base.specs.Limits.{port_room}
use Rattle.dc_base.specs.Ports.{ports_after_send, messages_in, latch_at}
use Rattle.dc_base.specs.Kernel.{Call, faults, waits, makes, length_in, rights_in, with_timer, with_copy, memory_cap, with_end_and_frame, send, recv, take_latch, wait_call, arm_call, copy_call, retype_call, call_of, with_next_place, number_in, first_in, cap_in}
use Rattle.dc_base.specs.Serving.{need}
use Rattle.dc_exec.specs.Calls.{is_proper_call}

-- a call that is none of those that need an object

pub record IsOther (i : Instr) : Type 0 where
  pub out : (a : ℕ) → i ≡ Out a → ⊥
  pub csend : (a b imm : ℕ) → i ≡ Csend a b imm → ⊥
  pub crecv : (a b imm : ℕ) → i ≡ Crecv a b imm → ⊥
  pub bind : (a b : ℕ) → i ≡ Bind a b → ⊥
  pub give : (a b : ℕ) → i ≡ Give a b → ⊥
  pub claim : (a b imm : ℕ) → i ≡ Claim a b imm → ⊥

pub record IsFree (call : Call) : Type 0 where
  pub nothing : need call ≡ Nothing

-- the call, where none of these tests holds, and the fault of the first that does
abbrev after_tests : List (Bool × ℕ) → Call → Call
after_tests [] call = call
after_tests (t ∷ ts) call = if t.0 then faults t.1 else after_tests ts call

tested_free : (ts : List (Bool × ℕ)) (call : Call) → IsFree call → IsFree (after_tests ts call)
unfolding need
tested_free [] call f = f
tested_free (t ∷ ts) call f = by_test t.0 (tested_free ts call f)
  where
    by_test : (b : Bool) → IsFree (after_tests ts call) → IsFree (if b then faults t.1 else after_tests ts call)
    by_test true g = record { nothing = refl }
    by_test false g = g

makes_free : (w : Option Waiting) (p : Parts) → IsFree (makes w p)
unfolding need
makes_free w p = record { nothing = refl }

message_free : (is_end : CapKind → Bool) (r s imm : ℕ) (a b : Option Cap) (call : Call) → IsFree call → IsFree (with_end_and_frame is_end r s imm a b call)
message_free is_end r s imm a b call f = tested_free ((is_none a || is_none b, 4) ∷ (is_other is_end a || is_other is_frame b, 6) ∷ (lacks r a || lacks s b, 7) ∷ (nat_lt (length_in b) (imm + 4), 8) ∷ []) call f

send_free : (q : ℕ) (m : Message) (p : Parts) → IsFree (send q m p)
unfolding need
send_free q m p = by_test (nat_lt (length (messages_in p.ports q)) port_room)
  where
    by_test : (b : Bool) → IsFree (if b then makes (Some (wait.Recv (record { 0 = q }))) (record p { ports = ports_after_send q m p.ports }) else waits (wait.Send (record { 0 = q })))
    by_test true = record { nothing = refl }
    by_test false = record { nothing = refl }

recv_free : (q address : ℕ) (p : Parts) (ms : List Message) → IsFree (recv q address p ms)
unfolding need
recv_free q address p [] = record { nothing = refl }
recv_free q address p (m ∷ ms) = record { nothing = refl }

latch_free : (d s b : ℕ) (c : Context) (p : Parts) (o : Option Latch) → IsFree (take_latch d s b c p o)
unfolding need
latch_free d s b c p None = record { nothing = refl }
latch_free d s b c p (Some l) = record { nothing = refl }

wait_free : (d b : ℕ) (c : Context) (p : Parts) (a : Option Cap) → IsFree (wait_call d b c p a)
wait_free d b c p a = tested_free ((is_none a, 4) ∷ (is_other is_signal a, 6) ∷ (lacks read_right a, 7) ∷ []) _ (latch_free d (number_in a) b c p (latch_at p.signals (number_in a)))

arm_free : (deadline value : ℕ) (p : Parts) (a : Option Cap) → IsFree (arm_call deadline value p a)
arm_free deadline value p a = tested_free ((is_none a, 4) ∷ (is_other is_signal a, 6) ∷ (lacks write_right a, 7) ∷ (nat_le 64 (length p.timers), 10) ∷ []) _ (makes_free None (with_timer deadline (number_in a) value p))

copy_free : (d to from slot mask : ℕ) (p : Parts) (a : Option Cap) → IsFree (copy_call d to from slot mask p a)
copy_free d to from slot mask p a = tested_free ((is_none a, 4) ∷ (is_used p.caps slot, 5) ∷ (not (to == d) && lacks grant_right a, 7) ∷ (nat_le (length p.code) to, 8) ∷ []) _ (makes_free None (with_copy from slot mask p a))

retype_free : (from slot : ℕ) (into : Bool) (offset size : ℕ) (p : Parts) (a : Option Cap) → IsFree (retype_call from slot into offset size p a)
retype_free from slot into offset size p a =
    tested_free ((is_none a, 4) ∷ (is_used p.caps slot, 5) ∷ (is_other is_ram a, 6) ∷ (lacks write_right a, 7) ∷ (size == 0 || nat_lt (length_in a) (offset + size), 8) ∷ (has_child_within p.caps from (first_in a + offset) size, 9) ∷ []) _
    (makes_free None (record p { caps = with_child from slot (memory_cap into (first_in a + offset) size (rights_in a)) p.caps }))

emptied_free : (a : Option Cap) (p : Parts) → IsFree (if is_none a then faults 4 else makes None p)
emptied_free a p = tested_free ((is_none a, 4) ∷ []) _ (makes_free None p)

pub other_free : (time d : ℕ) (x : Context) (p : Parts) (i : Instr) → IsOther i → need (call_of time d x i p) ≡ Nothing
unfolding need call_of
other_free time d x p (Out a) o = absurd (o.out a refl)
other_free time d x p (Csend a b imm) o = absurd (o.csend a b imm refl)
other_free time d x p (Crecv a b imm) o = absurd (o.crecv a b imm refl)
other_free time d x p (Bind a b) o = absurd (o.bind a b refl)
other_free time d x p (Give a b) o = absurd (o.give a b refl)
other_free time d x p (Claim a b imm) o = absurd (o.claim a b imm refl)
other_free time d x p Yield o = refl
other_free time d x p (Send a b imm) o = (message_free is_port write_right read_right imm (cap_in d p a) (cap_in d p b) _ (send_free (number_in (cap_in d p a)) (words_at p.memory (first_in (cap_in d p b) + imm)) (with_next_place d x p))).nothing
other_free time d x p (Recv a b imm) o = (message_free is_port read_right write_right imm (cap_in d p a) (cap_in d p b) _ (recv_free (number_in (cap_in d p a)) (first_in (cap_in d p b) + imm) (with_next_place d x p) (messages_in p.ports (number_in (cap_in d p a))))).nothing
other_free time d x p (Wait a b) o = (wait_free d b x p (cap_in d p a)).nothing
other_free time d x p (Arm a b imm) o = (arm_free (time + reg x b) imm (with_next_place d x p) (cap_in d p a)).nothing
other_free time d x p (Copy a b imm) o = (copy_free d (imm / 16) (slot_number d a) (slot_number (imm / 16) b) (imm % 16) (with_next_place d x p) (cap_in d p a)).nothing
other_free time d x p (Retype a b imm) o = (retype_free (slot_number d a) (slot_number d b) (imm == 1) (reg x 6) (reg x 7) (with_next_place d x p) (cap_in d p a)).nothing
other_free time d x p (Delete a) o = (emptied_free (cap_in d p a) _).nothing
other_free time d x p (Revoke a) o = (emptied_free (cap_in d p a) _).nothing
other_free time d x p (Li a imm) o = refl
other_free time d x p (Lih a imm) o = refl
other_free time d x p (Mov a b) o = refl
other_free time d x p (Add a b) o = refl
other_free time d x p (Sub a b) o = refl
other_free time d x p (Mul a b) o = refl
other_free time d x p (And a b) o = refl
other_free time d x p (Or a b) o = refl
other_free time d x p (Xor a b) o = refl
other_free time d x p (Shl a b) o = refl
other_free time d x p (Shr a b) o = refl
other_free time d x p (Beq a b imm) o = refl
other_free time d x p (Bne a b imm) o = refl
other_free time d x p (Bltu a b imm) o = refl
other_free time d x p (Jmp imm) o = refl
other_free time d x p (Ld a b imm) o = refl
other_free time d x p (St a b imm) o = refl
other_free time d x p (Rdt a b) o = refl
other_free time d x p Nop o = refl
other_free time d x p Halt o = refl

-- the fields of a proper call

slots_below : (a b imm : ℕ) → IsTrue (are_slots a b imm) → (a < 16) × ((b < 16) × (imm < 2 ^ 16))
slots_below a b imm h = search rules

pub slots_in : (i j : Instr) (a b imm : ℕ) → i ≡ j → is_proper_call j ≡ are_slots a b imm → IsTrue (is_proper_call i) → (a < 16) × ((b < 16) × (imm < 2 ^ 16))
slots_in i j a b imm e f h = slots_below a b imm (subst IsTrue (ap (λ i. is_proper_call i) e ∙ f) h)

-- what the slots hold

pub used_where : (set : List Seat) (s : ℕ) → is_used set s ≡ is_some (cap_at set s)
used_where set s = by_seat (seat_at set s)
  where
    by_seat : (o : Option Seat) → is_some o ≡ is_some (option_map (λ (h : Seat). h.cap) o)
    by_seat None = refl
    by_seat (Some h) = refl

pub two_held : {X : Type 0} (set caps : List Seat) → caps ≡ set → (s t : ℕ) (a b : Option Cap) → a ≡ cap_at set s → b ≡ cap_at set t → (f : Option Cap → Option Cap → X) → f a b ≡ f (cap_at caps s) (cap_at caps t)
two_held set caps same s t a b e g f = ap (λ a. f a b) (e ∙ ap (λ c. cap_at c s) (sym same)) ∙ ap (λ b. f (cap_at caps s) b) (g ∙ ap (λ c. cap_at c t) (sym same))

pub as_told : (time d : ℕ) (x : Context) (p : Parts) (i j : Instr) → i ≡ j → need (call_of time d x j p) ≡ need (call_of time d x i p)
as_told time d x p i j e = ap (λ i. need (call_of time d x i p)) (sym e)
