-- What a message for a port comes to, and one from it.
use Rattle.std.proofs.Common.{◌≡◌, ℕ, ◌+◌, ◌<◌, ◌≤◌, ◌↔◌, Bool, true, false, List, [], ◌∷◌, ◌++◌, length, ap, sym, ◌∙◌, arith}
use Rattle.std.specs.Prelude.{Some, Result, nat_lt, IsTrue, IsOk, IsErr, OnOk, if◌then◌else◌, slice_get, slice_set}
use Rattle.std.proofs.lemmas.Bool.{lt-ltb, le-ltb}
use Rattle.dc_base.specs.declared.dispatchers.Wait.TheVariants as wait
use Rattle.dc_base.specs.declared.instructions.Instr.TheVariants.{Send, Recv}
use Rattle.dc_base.specs.declared.messages.Message.{Message}
use Rattle.dc_base.specs.Capabilities.{is_port, read_right, write_right}
use Rattle.dc_base.specs.ControlBlocks.{ControlBlock}
use Rattle.dc_base.specs.Effects.{Context}
use Rattle.dc_base.specs.Instructions.{is_proper}
use Rattle.dc_base.specs.Kernel.{Call, faults, waits, makes, call_of, with_end_and_frame, with_next_place, cap_in, number_in, first_in, send, recv}
use Rattle.dc_base.specs.Parts.{Parts, words_at, with_words, with_message}
use Rattle.dc_base.specs.Limits.{port_room}
use Rattle.dc_base.specs.Ports.{messages_in, ports_after_send}
use Rattle.dc_base.specs.Words.{elements}
use Rattle.dc_calls.proofs.CallEnds.{slots_within}
use Rattle.dc_calls.proofs.CallLists.{change_set}
use Rattle.dc_calls.proofs.CallResults.{on_ok, ok_not_err}

pub send_slots : (a b imm : ℕ) → IsTrue (is_proper (Send a b imm)) → (a < 16) × (b < 16) × (imm < 65536)
unfolding is_proper
send_slots a b imm h = slots_within a b imm h

pub recv_slots : (a b imm : ℕ) → IsTrue (is_proper (Recv a b imm)) → (a < 16) × (b < 16) × (imm < 65536)
unfolding is_proper
recv_slots a b imm h = slots_within a b imm h

module _ (time d a b imm : ℕ) (x : Context) (p : Parts) where
  pub send_faults : (k : ℕ) → ((call : Call) → with_end_and_frame is_port write_right read_right imm (cap_in d p a) (cap_in d p b) call ≡ faults k) → call_of time d x (Send a b imm) p ≡ faults k
  unfolding call_of
  send_faults k e = e _

  pub send_is : (q at : ℕ) → ((call : Call) → with_end_and_frame is_port write_right read_right imm (cap_in d p a) (cap_in d p b) call ≡ call) → q ≡ number_in (cap_in d p a) → at ≡ first_in (cap_in d p b) + imm → call_of time d x (Send a b imm) p ≡ send q (words_at p.memory at) (with_next_place d x p)
  unfolding call_of
  send_is q at e is from = e _ ∙ (ap (λ n. send n (words_at p.memory (first_in (cap_in d p b) + imm)) (with_next_place d x p)) (sym is) ∙ ap (λ n. send q (words_at p.memory n) (with_next_place d x p)) (sym from))

  pub recv_faults : (k : ℕ) → ((call : Call) → with_end_and_frame is_port read_right write_right imm (cap_in d p a) (cap_in d p b) call ≡ faults k) → call_of time d x (Recv a b imm) p ≡ faults k
  unfolding call_of
  recv_faults k e = e _

  pub recv_is : (q at : ℕ) → ((call : Call) → with_end_and_frame is_port read_right write_right imm (cap_in d p a) (cap_in d p b) call ≡ call) → q ≡ number_in (cap_in d p a) → at ≡ first_in (cap_in d p b) + imm → call_of time d x (Recv a b imm) p ≡ recv q at (with_next_place d x p) (messages_in p.ports q)
  unfolding call_of
  recv_is q at e is from = e _ ∙ (ap (λ n. recv n (first_in (cap_in d p b) + imm) (with_next_place d x p) (messages_in p.ports n)) (sym is) ∙ ap (λ n. recv q n (with_next_place d x p) (messages_in p.ports q)) (sym from))

-- by what the port has
by_room : (q : ℕ) (m : Message) (p : Parts) (ms : List Message) (t : Bool) → slice_get p.ports q ≡ Some ms → nat_lt (length ms) port_room ≡ t → send q m p ≡ (if t then makes (Some (wait.Recv (record { 0 = q }))) (record p { ports = slice_set p.ports q (ms ++ m ∷ []) }) else waits (wait.Send (record { 0 = q })))
by_room q m p ms t there e =
    let held = makes (Some (wait.Recv (record { 0 = q }))) (record p { ports = ports_after_send q m p.ports }) in
    let waiting = waits (wait.Send (record { 0 = q })) in
    ap (λ o. if nat_lt (length (elements o)) port_room then held else waiting) there
    ∙ (ap (λ ports. if nat_lt (length ms) port_room then makes (Some (wait.Recv (record { 0 = q }))) (record p { ports = ports }) else waiting) (change_set (λ (ns : List Message). ns ++ m ∷ []) p.ports q ms there)
    ∙ ap (λ b. if b then makes (Some (wait.Recv (record { 0 = q }))) (record p { ports = slice_set p.ports q (ms ++ m ∷ []) }) else waiting) e)

-- a port with room takes the message
pub send_makes : {A E : Type 0} (r : Result A E) (q : ℕ) (m m' : Message) (p : Parts) (ms ms' : List Message) → slice_get p.ports q ≡ Some ms → IsOk r → (IsOk r ↔ (length ms < 8)) → OnOk r (ms' ≡ ms ++ m' ∷ []) → m' ≡ m → send q m p ≡ makes (Some (wait.Recv (record { 0 = q }))) (record p { ports = slice_set p.ports q ms' })
send_makes r q m m' p ms ms' there ok room pushed same =
    by_room q m p ms true there (lt-ltb _ _ (room.0 ok))
    ∙ ap (λ ns. makes (Some (wait.Recv (record { 0 = q }))) (record p { ports = slice_set p.ports q ns })) (ap (λ l. ms ++ l ∷ []) (sym same) ∙ sym (on_ok r ok pushed))

-- a full port does not
pub send_waits : {A E : Type 0} (r : Result A E) (q : ℕ) (m : Message) (p : Parts) (ms : List Message) → slice_get p.ports q ≡ Some ms → IsErr r → (IsOk r ↔ (length ms < 8)) → send q m p ≡ waits (wait.Send (record { 0 = q }))
send_waits r q m p ms there err room = by_room q m p ms false there (le-ltb _ _ (if_not (ok_not_err r err) room.1))
  where
    if_not : {P : Type 0} → (P → ⊥) → (length ms < 8 → P) → 8 ≤ length ms
    if_not never more = let not_lt : length ms < 8 → ⊥ = λ h. never (more h) in omega arith

-- a block whose port was changed, and whose dispatcher went on
pub port_changed : (y before : ControlBlock) (ports : List (List Message)) (q : ℕ) (ms : List Message) (d : ℕ) (x : Context) → y ≡ before → ports ≡ slice_set y.parts.ports q ms →
    ◌≡◌ {A = ControlBlock} (record y { parts = with_next_place d x (record y.parts { ports = ports }) }) (record before { parts = record (with_next_place d x before.parts) { ports = slice_set before.parts.ports q ms } })
port_changed y before ports q ms d x is e =
    ap (λ ps. record y { parts = with_next_place d x (record y.parts { ports = ps }) }) e
    ∙ ap (λ (z : ControlBlock). record z { parts = record (with_next_place d x z.parts) { ports = slice_set z.parts.ports q ms } }) is

-- a block whose ports are as before
pub ports_kept : (y before : ControlBlock) (ports : List (List Message)) → y ≡ before → ports ≡ y.parts.ports → ◌≡◌ {A = ControlBlock} (record y { parts = record y.parts { ports = ports } }) before
ports_kept y before ports is e = ap (λ ps. record y { parts = record y.parts { ports = ps } }) e ∙ is

-- the port's first message is received
pub recv_makes : (q at : ℕ) (p : Parts) (ports : List (List Message)) (ns ms : List Message) (m : Message) → slice_get ports q ≡ Some ns → ns ≡ m ∷ ms → recv q at p (messages_in ports q) ≡ makes (Some (wait.Send (record { 0 = q }))) (with_message at m (record p { ports = slice_set p.ports q ms }))
recv_makes q at p ports ns ms m there e = ap (λ o. recv q at p (elements o)) there ∙ ap (recv q at p) e

-- an empty port has none
pub recv_waits : (q at : ℕ) (p : Parts) (ports : List (List Message)) (ns : List Message) → slice_get ports q ≡ Some ns → ns ≡ [] → recv q at p (messages_in ports q) ≡ waits (wait.Recv (record { 0 = q }))
recv_waits q at p ports ns there e = ap (λ o. recv q at p (elements o)) there ∙ ap (recv q at p) e

-- a block with a message in its memory and one less in a port, whose dispatcher went on
pub port_received : (y before : ControlBlock) (memory : List ℕ) (ports : List (List Message)) (q at : ℕ) (ms : List Message) (m : Message) (d : ℕ) (x : Context) → y ≡ before → memory ≡ with_words at m.0 y.parts.memory → ports ≡ slice_set y.parts.ports q ms →
    ◌≡◌ {A = ControlBlock} (record y { parts = with_next_place d x (record y.parts { memory = memory; ports = ports }) }) (record before { parts = with_message at m (record (with_next_place d x before.parts) { ports = slice_set before.parts.ports q ms }) })
port_received y before memory ports q at ms m d x is written e =
    ap (λ ps. record y { parts = with_next_place d x (record y.parts { memory = memory; ports = ps }) }) e
    ∙ (ap (λ ws. record y { parts = with_next_place d x (record y.parts { memory = ws; ports = slice_set y.parts.ports q ms }) }) written
    ∙ ap (λ (z : ControlBlock). record z { parts = with_message at m (record (with_next_place d x z.parts) { ports = slice_set z.parts.ports q ms }) }) is)
