-- What a kernel call comes to, as far as its block tells.
use Rattle.std.proofs.Common.{◌≡◌, ℕ, zero, suc, ◌+◌, ◌*◌, ◌/◌, ◌%◌, ◌<◌, ◌≤◌, ◌^◌, List, [], ◌∷◌, Bool, true, false, Option, Some, None, refl, sym, ap, subst, arith, length}
use Rattle.std.specs.Prelude.{slice_get, nat_lt, nat_le, ◌==◌, ◌&&◌, ◌||◌, not, if◌then◌else◌}
use Rattle.std.proofs.lemmas.Bool.Decides.{nat_tests}
use Rattle.std.proofs.lemmas.Option.{slice_get_within}
use Rattle.std.proofs.lemmas.Bool.{or_parts}
use Rattle.dc_base.specs.declared.capabilities.Cap.{Cap}
use Rattle.dc_base.specs.declared.capabilities.CapKind.{CapKind}
use Rattle.dc_base.specs.declared.capabilities.CapKind.TheVariants as kind
use Rattle.dc_base.specs.declared.dispatchers.Wait.TheVariants as wait
use Rattle.dc_base.specs.declared.instructions.Instr.{Instr}
use Rattle.dc_base.specs.declared.instructions.Instr.TheVariants.{Out, Yield, Send, Recv, Csend, Crecv, Wait, Arm, Copy, Retype, Delete, Revoke, Bind, Give, Claim}
use Rattle.dc_base.specs.declared.interrupts.Latch.{Latch}
use Rattle.dc_base.specs.declared.messages.Message.{Message}
use Rattle.dc_base.specs.Effects.{Context, reg}
use Rattle.dc_base.specs.Instructions.{is_proper}
use Rattle.dc_base.specs.Capabilities.{slot_number, cap_at, is_used, without_line, is_ram, is_frame, is_port, is_signal, is_send_end, is_recv_end, is_line, named, first_word, range_length, read_right, write_right, grant_right, lacks, has_child_within}
use Rattle.dc_base.specs.Ports.{messages_in, latch_at}
use Rattle.dc_base.specs.Parts.{Parts, words_at}
use Rattle.dc_base.specs.Kernel.{Call, faults, waits, makes, takes, prints, sends, receives, binds, gives, claims, number_in, first_in, with_next_place, with_end_and_frame, send, recv, take_latch, wait_call, arm_call, copy_call, retype_call, delete_call, revoke_call, bind_call, give_call, claim_call, cap_in, call_of}
use Rattle.dc_base.specs.ControlBlocks.{ControlBlock}
use Rattle.dc_base.specs.Named.{is_channel_call, instr_of}
use Rattle.dc_base.specs.States.{State}
use Rattle.dc_block_sound.proofs.PlainMoves.{lt_true, and_left, and_right}
use Rattle.dc_block_sound.proofs.ControlSteps.{Holds, InFrame, Runs, MayWait, with_parts, moved_on, latch_taken, port_sent, port_taken, armed, copied, retyped, deleted, revoked, given, Steps, one, last}

pub le_false : (a b : ℕ) → nat_lt a b ≡ false → b ≤ a
le_false a b h = grind (arith, nat_tests)

pub lt_false : (a b : ℕ) → nat_le a b ≡ false → b < a
lt_false a b h = grind (arith, nat_tests)

pub not_false : (t : Bool) → not t ≡ false → t ≡ true
not_false true h = refl
not_false false h = absurd cc

-- the kind that a test tells
frame_is : (k : CapKind) → is_frame k ≡ true → k ≡ kind.Frame (first_word k) (range_length k)
frame_is (kind.Frame f l) h = refl
frame_is k h = absurd cc

ram_is : (k : CapKind) → is_ram k ≡ true → k ≡ kind.Ram (first_word k) (range_length k)
ram_is (kind.Ram f l) h = refl
ram_is k h = absurd cc

port_is : (k : CapKind) → is_port k ≡ true → k ≡ kind.Port (record { 0 = named k })
port_is (kind.Port p) h = refl
port_is k h = absurd cc

signal_is : (k : CapKind) → is_signal k ≡ true → k ≡ kind.Signal (record { 0 = named k })
signal_is (kind.Signal p) h = refl
signal_is k h = absurd cc

send_end_is : (k : CapKind) → is_send_end k ≡ true → k ≡ kind.SendEnd (record { 0 = named k })
send_end_is (kind.SendEnd p) h = refl
send_end_is k h = absurd cc

recv_end_is : (k : CapKind) → is_recv_end k ≡ true → k ≡ kind.RecvEnd (record { 0 = named k })
recv_end_is (kind.RecvEnd p) h = refl
recv_end_is k h = absurd cc

line_is : (k : CapKind) → is_line k ≡ true → k ≡ kind.Line (record { 0 = named k })
line_is (kind.Line p) h = refl
line_is k h = absurd cc

-- a slot's line is given with its rights
pub record GivesUp (x : ControlBlock) (line rights : ℕ) (p : Parts) : Type 0 where
  pub slot : ℕ
  pub cap : Cap
  pub cap_there : cap_at x.parts.caps slot ≡ Some cap
  pub kind_is : cap.kind ≡ kind.Line (record { 0 = line })
  pub rights_are : cap.rights ≡ rights
  pub caps_are : p.caps ≡ without_line line x.parts.caps

-- a slot that is free takes what is claimed
pub record HasSlot (x : ControlBlock) (slot : ℕ) (p : Parts) : Type 0 where
  pub free : is_used p.caps slot ≡ false
  pub within : slot < 16 * length p.code
  pub caps_are : p.caps ≡ x.parts.caps

-- four words of the block's memory
abbrev pub IsRead : ControlBlock → Message → Type 0
IsRead x m = (address : ℕ) × (m ≡ words_at x.parts.memory address) × InFrame x.parts address

abbrev pub IsRegister : ControlBlock → ℕ → ℕ → Type 0
IsRegister x d w = (c : Context) × (a : ℕ) × (slice_get x.parts.contexts d ≡ Some c) × (w ≡ reg c a)

abbrev pub IsAtChannelCall : ControlBlock → ℕ → Type 0
IsAtChannelCall x d = is_channel_call (instr_of x.parts d) ≡ true

-- what a call may come to
abbrev pub CallFits : State → (ℕ → Type 0) → ControlBlock → ℕ → Call → Type 0
CallFits s C x d (faults n) = (0 < n) × (n ≤ 12)
CallFits s C x d (waits w) = MayWait x d w
CallFits s C x d (makes w p) = Steps s d C x (with_parts x p)
CallFits s C x d (takes l p) = Steps s d C x (with_parts x p)
CallFits s C x d (prints w p) = IsRegister x d w × Steps s d C x (with_parts x p)
CallFits s C x d (sends y m p) = Holds x.parts (kind.SendEnd (record { 0 = y })) × IsRead x m × IsAtChannelCall x d × Steps s d C x (with_parts x p)
CallFits s C x d (receives y address p) = Holds x.parts (kind.RecvEnd (record { 0 = y })) × IsAtChannelCall x d × Steps s d C x (with_parts x p)
CallFits s C x d (binds l signal p) = Holds x.parts (kind.Signal (record { 0 = signal })) × Steps s d C x (with_parts x p)
CallFits s C x d (gives l y rights p) = Holds x.parts (kind.SendEnd (record { 0 = y })) × GivesUp x l rights p × Steps s d C x (with_parts x p)
CallFits s C x d (claims l y slot p) = HasSlot x slot p × Steps s d C x (with_parts x p)

module _ (s : State) (d : ℕ) (C : ℕ → Type 0) (x : ControlBlock) (code : List ℕ) (c : Context) (runs : Runs s x d code c) where
  abbrev F : Call → Type 0
  F k = CallFits s C x d k

  abbrev next : Parts
  next = with_next_place d c x.parts

  moved : Steps s d C x (with_parts x next)
  moved = one s d C x (with_parts x next) (moved_on x code c runs)

  if_call : (t : Bool) (k l : Call) → (t ≡ true → F k) → (t ≡ false → F l) → F (if t then k else l)
  if_call true k l f g = f refl
  if_call false k l f g = g refl

  -- a fault where the test holds
  faults_if : (t : Bool) (n : ℕ) (k : Call) → 0 < n → n ≤ 12 → (t ≡ false → F k) → F (if t then faults n else k)
  faults_if t n k h i f = if_call t (faults n) k (λ q. (h, i)) f

  holds_frame : (slot imm : ℕ) (cap : Cap) → cap_at x.parts.caps slot ≡ Some cap → is_frame cap.kind ≡ true → imm + 4 ≤ range_length cap.kind → InFrame x.parts (first_word cap.kind + imm)
  holds_frame slot imm cap e f h = (first_word cap.kind, range_length cap.kind, (slot, cap, e, frame_is cap.kind f), omega arith)

  -- an end and a frame
  with_end_fits : (is_end : CapKind → Bool) (end_right frame_right imm i j : ℕ) (k : Call) → (a b : Option Cap) → cap_at x.parts.caps i ≡ a → cap_at x.parts.caps j ≡ b →
      ((e : Cap) → a ≡ Some e → cap_at x.parts.caps i ≡ Some e → is_end e.kind ≡ true → InFrame x.parts (first_in b + imm) → F k) → F (with_end_and_frame is_end end_right frame_right imm a b k)
  with_end_fits is_end er fr imm i j k None b p q f = (omega arith, omega arith)
  with_end_fits is_end er fr imm i j k (Some e) None p q f = (omega arith, omega arith)
  with_end_fits is_end er fr imm i j k (Some e) (Some g) p q f =
      faults_if (not (is_end e.kind) || not (is_frame g.kind)) 6 _ (omega arith) (omega arith) (λ t.
      let kinds = or_parts (not (is_end e.kind)) (not (is_frame g.kind)) t in
      faults_if (lacks er (Some e) || lacks fr (Some g)) 7 _ (omega arith) (omega arith) (λ u.
      faults_if (nat_lt (range_length g.kind) (imm + 4)) 8 k (omega arith) (omega arith) (λ v.
      f e refl p (not_false _ kinds.0) (holds_frame j imm g q (not_false _ kinds.1) (le_false _ _ v)))))

  send_fits : (slot address : ℕ) (e : Cap) → cap_at x.parts.caps slot ≡ Some e → is_port e.kind ≡ true → InFrame x.parts address → F (send (named e.kind) (words_at x.parts.memory address) next)
  send_fits slot address e p k f =
      if_call (nat_lt (length (messages_in x.parts.ports (named e.kind))) 8) _ (waits (wait.Send (record { 0 = named e.kind })))
      (λ t. last s d C x (with_parts x next) _ moved (port_sent (with_parts x next) (named e.kind) address f (lt_true _ _ t)))
      (λ t. (slot, e, p, port_is e.kind k))

  recv_fits : (slot address : ℕ) (e : Cap) → cap_at x.parts.caps slot ≡ Some e → is_port e.kind ≡ true → (ms : List Message) → messages_in x.parts.ports (named e.kind) ≡ ms → F (recv (named e.kind) address next ms)
  recv_fits slot address e p k [] q = (slot, e, p, port_is e.kind k)
  recv_fits slot address e p k (m ∷ ms) q = last s d C x (with_parts x next) _ moved (port_taken (with_parts x next) (named e.kind) address m ms q)

  latch_fits : (slot b : ℕ) (e : Cap) → cap_at x.parts.caps slot ≡ Some e → is_signal e.kind ≡ true → (o : Option Latch) → latch_at x.parts.signals (named e.kind) ≡ o → F (take_latch d (named e.kind) b c x.parts o)
  latch_fits slot b e p k None q = (slot, e, p, signal_is e.kind k)
  latch_fits slot b e p k (Some l) q = one s d C x _ (latch_taken x code c (named e.kind) b l runs q)

  wait_fits : (slot b : ℕ) (a : Option Cap) → cap_at x.parts.caps slot ≡ a → F (wait_call d b c x.parts a)
  wait_fits slot b None p = (omega arith, omega arith)
  wait_fits slot b (Some e) p =
      faults_if (not (is_signal e.kind)) 6 _ (omega arith) (omega arith) (λ t.
      faults_if (lacks read_right (Some e)) 7 _ (omega arith) (omega arith) (λ u.
      latch_fits slot b e p (not_false _ t) (latch_at x.parts.signals (named e.kind)) refl))

  arm_fits : (slot deadline value : ℕ) → value < 2 ^ 16 → (a : Option Cap) → cap_at x.parts.caps slot ≡ a → F (arm_call deadline value next a)
  arm_fits slot deadline value h None p = (omega arith, omega arith)
  arm_fits slot deadline value h (Some e) p =
      faults_if (not (is_signal e.kind)) 6 _ (omega arith) (omega arith) (λ t.
      faults_if (lacks write_right (Some e)) 7 _ (omega arith) (omega arith) (λ u.
      faults_if (nat_le 64 (length x.parts.timers)) 10 _ (omega arith) (omega arith) (λ v.
      last s d C x (with_parts x next) _ moved (armed (with_parts x next) deadline (named e.kind) value (lt_false _ _ v) (slot, e, p, signal_is e.kind (not_false _ t)) h))))

  copy_fits : (to from b mask : ℕ) → b < 16 → (a : Option Cap) → cap_at x.parts.caps from ≡ a → F (copy_call d to from (slot_number to b) mask next a)
  copy_fits to from b mask h None p = (omega arith, omega arith)
  copy_fits to from b mask h (Some e) p =
      faults_if (is_used x.parts.caps (slot_number to b)) 5 _ (omega arith) (omega arith) (λ t.
      faults_if (not (to == d) && lacks grant_right (Some e)) 7 _ (omega arith) (omega arith) (λ u.
      faults_if (nat_le (length x.parts.code) to) 8 _ (omega arith) (omega arith) (λ v.
      let w : to < length x.parts.code = lt_false _ _ v in
      last s d C x (with_parts x next) _ moved (copied (with_parts x next) from (slot_number to b) mask e p t (omega (arith, w))))))

  own_slot : (b : ℕ) → b < 16 → slot_number d b < 16 * length x.parts.code
  own_slot b h = let w = slice_get_within x.parts.code d code runs.code_at in omega (arith, w)

  retype_fits : (from b : ℕ) (into_frame : Bool) (offset size : ℕ) → b < 16 → (a : Option Cap) → cap_at x.parts.caps from ≡ a → F (retype_call from (slot_number d b) into_frame offset size next a)
  retype_fits from b into_frame offset size h None p = (omega arith, omega arith)
  retype_fits from b into_frame offset size h (Some e) p =
      faults_if (is_used x.parts.caps (slot_number d b)) 5 _ (omega arith) (omega arith) (λ t.
      faults_if (not (is_ram e.kind)) 6 _ (omega arith) (omega arith) (λ r.
      faults_if (lacks write_right (Some e)) 7 _ (omega arith) (omega arith) (λ u.
      faults_if (size == 0 || nat_lt (range_length e.kind) (offset + size)) 8 _ (omega arith) (omega arith) (λ v.
      let v2 = or_parts (size == 0) (nat_lt (range_length e.kind) (offset + size)) v in
      faults_if (has_child_within x.parts.caps from (first_word e.kind + offset) size) 9 _ (omega arith) (omega arith) (λ w.
      last s d C x (with_parts x next) _ moved (retyped (with_parts x next) from (slot_number d b) into_frame (first_word e.kind) (range_length e.kind) offset size e p (ram_is e.kind (not_false _ r)) (some_size size v2.0) (le_false _ _ v2.1) t (own_slot b h)))))))
    where
      some_size : (n : ℕ) → (n == 0) ≡ false → 0 < n
      some_size zero q = absurd cc
      some_size (suc n) q = omega arith

  delete_fits : (slot : ℕ) (a : Option Cap) → F (delete_call slot next a)
  delete_fits slot None = (omega arith, omega arith)
  delete_fits slot (Some e) = last s d C x (with_parts x next) _ moved (deleted (with_parts x next) slot)

  revoke_fits : (slot : ℕ) (a : Option Cap) → F (revoke_call slot next a)
  revoke_fits slot None = (omega arith, omega arith)
  revoke_fits slot (Some e) = last s d C x (with_parts x next) _ moved (revoked (with_parts x next) slot)

  bind_fits : (j : ℕ) (a b : Option Cap) → cap_at x.parts.caps j ≡ b → F (bind_call next a b)
  bind_fits j None b q = (omega arith, omega arith)
  bind_fits j (Some e) None q = (omega arith, omega arith)
  bind_fits j (Some e) (Some g) q =
      faults_if (not (is_line e.kind) || not (is_signal g.kind)) 6 _ (omega arith) (omega arith) (λ t.
      let kinds = or_parts (not (is_line e.kind)) (not (is_signal g.kind)) t in
      faults_if (lacks write_right (Some e) || lacks write_right (Some g)) 7 _ (omega arith) (omega arith) (λ u.
      ((j, g, q, signal_is g.kind (not_false _ kinds.1)), moved)))

  give_fits : (i j : ℕ) (a b : Option Cap) → cap_at x.parts.caps i ≡ a → cap_at x.parts.caps j ≡ b → F (give_call next a b)
  give_fits i j None b p q = (omega arith, omega arith)
  give_fits i j (Some e) None p q = (omega arith, omega arith)
  give_fits i j (Some e) (Some g) p q =
      faults_if (not (is_send_end e.kind) || not (is_line g.kind)) 6 _ (omega arith) (omega arith) (λ t.
      let kinds = or_parts (not (is_send_end e.kind)) (not (is_line g.kind)) t in
      faults_if (lacks write_right (Some e) || lacks grant_right (Some g)) 7 _ (omega arith) (omega arith) (λ u. (
        (i, e, p, send_end_is e.kind (not_false _ kinds.0)),
        record { slot = j; cap = g; cap_there = q; kind_is = line_is g.kind (not_false _ kinds.1); rights_are = refl; caps_are = refl },
        last s d C x (with_parts x next) _ moved (given (with_parts x next) (named g.kind)),
      )))

  claim_fits : (line b : ℕ) → b < 16 → (a : Option Cap) → F (claim_call line (slot_number d b) next a)
  claim_fits line b h None = (omega arith, omega arith)
  claim_fits line b h (Some e) =
      faults_if (is_used x.parts.caps (slot_number d b)) 5 _ (omega arith) (omega arith) (λ t.
      faults_if (not (is_recv_end e.kind)) 6 _ (omega arith) (omega arith) (λ r.
      faults_if (lacks read_right (Some e)) 7 _ (omega arith) (omega arith) (λ u.
      (record { free = t; within = own_slot b h; caps_are = refl }, moved))))

  -- the slots' numbers in a proper instruction
  second_slot : (a b imm : ℕ) (t : Bool) → (t && (nat_lt b 16 && nat_lt imm (2 ^ 16))) ≡ true → b < 16
  second_slot a b imm t h = lt_true b 16 (and_left (nat_lt b 16) _ (and_right t _ h))

  last_immediate : (a b imm : ℕ) (t : Bool) → (t && (nat_lt b 8 && nat_lt imm (2 ^ 16))) ≡ true → imm < 2 ^ 16
  last_immediate a b imm t h = lt_true imm (2 ^ 16) (and_right (nat_lt b 8) _ (and_right t _ h))

  pub call_fits : (time : ℕ) (i : Instr) → instr_of x.parts d ≡ Some i → is_proper i ≡ true → F (call_of time d c i x.parts)
  unfolding call_of is_proper
  call_fits time (Out a) q h = ((c, a, runs.context_at, refl), moved)
  call_fits time Yield q h = moved
  call_fits time (Send a b imm) q h =
      let i = slot_number d a in let j = slot_number d b in let address = first_in (cap_in d x.parts b) + imm in
      with_end_fits is_port write_right read_right imm i j _ (cap_in d x.parts a) (cap_in d x.parts b) refl refl (λ e g p k f.
      subst (λ o. F (send (number_in o) (words_at x.parts.memory address) next)) (sym g) (send_fits i address e p k f))
  call_fits time (Recv a b imm) q h =
      let i = slot_number d a in let j = slot_number d b in let address = first_in (cap_in d x.parts b) + imm in
      with_end_fits is_port read_right write_right imm i j _ (cap_in d x.parts a) (cap_in d x.parts b) refl refl (λ e g p k f.
      subst (λ o. F (recv (number_in o) address next (messages_in x.parts.ports (number_in o)))) (sym g) (recv_fits i address e p k _ refl))
  call_fits time (Csend a b imm) q h =
      let i = slot_number d a in let j = slot_number d b in let address = first_in (cap_in d x.parts b) + imm in
      with_end_fits is_send_end write_right read_right imm i j _ (cap_in d x.parts a) (cap_in d x.parts b) refl refl (λ e g p k f.
      subst (λ o. F (sends (number_in o) (words_at x.parts.memory address) next)) (sym g) ((i, e, p, send_end_is e.kind k), (address, refl, f), ap is_channel_call q, moved))
  call_fits time (Crecv a b imm) q h =
      let i = slot_number d a in let j = slot_number d b in let address = first_in (cap_in d x.parts b) + imm in
      with_end_fits is_recv_end read_right write_right imm i j _ (cap_in d x.parts a) (cap_in d x.parts b) refl refl (λ e g p k f.
      subst (λ o. F (receives (number_in o) address next)) (sym g) ((i, e, p, recv_end_is e.kind k), ap is_channel_call q, moved))
  call_fits time (Wait a b) q h = wait_fits (slot_number d a) b (cap_in d x.parts a) refl
  call_fits time (Arm a b imm) q h = arm_fits (slot_number d a) (time + reg c b) imm (last_immediate a b imm (nat_lt a 16) h) (cap_in d x.parts a) refl
  call_fits time (Copy a b imm) q h = copy_fits (imm / 16) (slot_number d a) b (imm % 16) (second_slot a b 0 (nat_lt a 16) (and_left _ _ h)) (cap_in d x.parts a) refl
  call_fits time (Retype a b imm) q h = retype_fits (slot_number d a) b (imm == 1) (reg c 6) (reg c 7) (second_slot a b 0 (nat_lt a 16) (and_left _ _ h)) (cap_in d x.parts a) refl
  call_fits time (Delete a) q h = delete_fits (slot_number d a) (cap_in d x.parts a)
  call_fits time (Revoke a) q h = revoke_fits (slot_number d a) (cap_in d x.parts a)
  call_fits time (Bind a b) q h = bind_fits (slot_number d b) (cap_in d x.parts a) (cap_in d x.parts b) refl
  call_fits time (Give a b) q h = give_fits (slot_number d a) (slot_number d b) (cap_in d x.parts a) (cap_in d x.parts b) refl refl
  call_fits time (Claim a b imm) q h = claim_fits imm b (second_slot a b imm (nat_lt a 16) h) (cap_in d x.parts a)
  call_fits time i q h = (omega arith, omega arith)
