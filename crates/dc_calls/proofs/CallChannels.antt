-- What a message for a channel comes to, and one from it.
use Rattle.std.proofs.Common.{◌≡◌, ℕ, ◌+◌, ◌<◌, List, ap, sym, refl, ◌∙◌}
use Rattle.std.specs.Prelude.{Some, None, Result, IsTrue, IsOk, IsErr, OnOk, OnErr}
use Rattle.dc_base.specs.declared.dispatchers.Wait.TheVariants as wait
use Rattle.dc_base.specs.declared.instructions.Instr.TheVariants.{Csend, Crecv}
use Rattle.dc_base.specs.declared.messages.Message.{Message}
use Rattle.dc_base.specs.Capabilities.{is_send_end, is_recv_end, read_right, write_right}
use Rattle.dc_base.specs.Channels.{Ring, ring_after_send, ring_after_take}
use Rattle.dc_base.specs.ControlBlocks.{ControlBlock}
use Rattle.dc_base.specs.Effects.{Context}
use Rattle.dc_base.specs.Instructions.{is_proper}
use Rattle.dc_base.specs.Kernel.{Call, faults, sends, receives, call_of, with_end_and_frame, with_next_place, cap_in, number_in, first_in}
use Rattle.dc_base.specs.Parts.{Parts, words_at, with_words, with_message}
use Rattle.dc_base.specs.Serving.{held_up, served, serve, serve_send, serve_receive, channel_outside}
use Rattle.dc_channel.specs.declared.channel.Channel.{Channel}
use Rattle.dc_calls.specs.declared.outsides.Outside.{Outside}
use Rattle.dc_calls.specs.declared.outsides.Outside.TheVariants as outside
use Rattle.dc_calls.specs.Outsides.{outside_seen}
use Rattle.dc_calls.proofs.CallEnds.{slots_within}
use Rattle.dc_calls.proofs.CallResults.{on_ok, on_err}

pub csend_slots : (a b imm : ℕ) → IsTrue (is_proper (Csend a b imm)) → (a < 16) × (b < 16) × (imm < 65536)
unfolding is_proper
csend_slots a b imm h = slots_within a b imm h

pub crecv_slots : (a b imm : ℕ) → IsTrue (is_proper (Crecv a b imm)) → (a < 16) × (b < 16) × (imm < 65536)
unfolding is_proper
crecv_slots a b imm h = slots_within a b imm h

module _ (time d a b imm : ℕ) (x : Context) (p : Parts) where
  pub csend_faults : (k : ℕ) → ((call : Call) → with_end_and_frame is_send_end write_right read_right imm (cap_in d p a) (cap_in d p b) call ≡ faults k) → call_of time d x (Csend a b imm) p ≡ faults k
  unfolding call_of
  csend_faults k e = e _

  pub csend_is : (q at : ℕ) → ((call : Call) → with_end_and_frame is_send_end write_right read_right imm (cap_in d p a) (cap_in d p b) call ≡ call) → q ≡ number_in (cap_in d p a) → at ≡ first_in (cap_in d p b) + imm → call_of time d x (Csend a b imm) p ≡ sends q (words_at p.memory at) (with_next_place d x p)
  unfolding call_of
  csend_is q at e is from = e _ ∙ (ap (λ n. sends n (words_at p.memory (first_in (cap_in d p b) + imm)) (with_next_place d x p)) (sym is) ∙ ap (λ n. sends q (words_at p.memory n) (with_next_place d x p)) (sym from))

  pub crecv_faults : (k : ℕ) → ((call : Call) → with_end_and_frame is_recv_end read_right write_right imm (cap_in d p a) (cap_in d p b) call ≡ faults k) → call_of time d x (Crecv a b imm) p ≡ faults k
  unfolding call_of
  crecv_faults k e = e _

  pub crecv_is : (q at : ℕ) → ((call : Call) → with_end_and_frame is_recv_end read_right write_right imm (cap_in d p a) (cap_in d p b) call ≡ call) → q ≡ number_in (cap_in d p a) → at ≡ first_in (cap_in d p b) + imm → call_of time d x (Crecv a b imm) p ≡ receives q at (with_next_place d x p)
  unfolding call_of
  crecv_is q at e is from = e _ ∙ (ap (λ n. receives n (first_in (cap_in d p b) + imm) (with_next_place d x p)) (sym is) ∙ ap (λ n. receives q n (with_next_place d x p)) (sym from))

module _ (c n q : ℕ) (call : Call) (p : Parts) where
  -- the channel takes the message
  pub channel_takes : {A E : Type 0} (r : Result A E) (m m' : Message) (ring new : Ring) → call ≡ sends q m p → IsOk r → OnOk r (ring_after_send ring m' ≡ Some new) → m' ≡ m → serve c n call (channel_outside ring) ≡ served None p (channel_outside new)
  unfolding serve
  channel_takes r m m' ring new is ok sent same = ap (λ (l : Call). serve c n l (channel_outside ring)) is ∙ ap (serve_send q p) (ap (ring_after_send ring) (sym same) ∙ on_ok r ok sent)

  -- it is full
  pub channel_full : {A E : Type 0} (r : Result A E) (m m' : Message) (ring : Ring) → call ≡ sends q m p → IsErr r → OnErr r (ring_after_send ring m' ≡ None) → m' ≡ m → serve c n call (channel_outside ring) ≡ held_up (wait.Csend (record { 0 = q }))
  unfolding serve
  channel_full r m m' ring is err sent same = ap (λ (l : Call). serve c n l (channel_outside ring)) is ∙ ap (serve_send q p) (ap (ring_after_send ring) (sym same) ∙ on_err r err sent)

  -- there is no channel to send to
  pub no_channel_to : (m : Message) (out : Outside) → call ≡ sends q m p → ((r : Channel) → out ≡ outside.Channel r → ⊥) → serve c n call (outside_seen out) ≡ held_up (wait.Csend (record { 0 = q }))
  unfolding serve
  no_channel_to m outside.Nothing is none = ap (λ (l : Call). serve c n l (outside_seen outside.Nothing)) is
  no_channel_to m (outside.Channel r) is none = absurd (none r refl)
  no_channel_to m (outside.Line w) is none = ap (λ (l : Call). serve c n l (outside_seen (outside.Line w))) is
  no_channel_to m (outside.Console ws) is none = ap (λ (l : Call). serve c n l (outside_seen (outside.Console ws))) is

  -- the channel gives its first message
  pub channel_gives : (at : ℕ) (m : Message) (ring new : Ring) → call ≡ receives q at p → ring_after_take ring ≡ Some (m, new) → serve c n call (channel_outside ring) ≡ served None (with_message at m p) (channel_outside new)
  unfolding serve
  channel_gives at m ring new is taken = ap (λ (l : Call). serve c n l (channel_outside ring)) is ∙ ap (serve_receive q at p) taken

  -- it is empty
  pub channel_empty : (at : ℕ) (ring : Ring) → call ≡ receives q at p → ring_after_take ring ≡ None → serve c n call (channel_outside ring) ≡ held_up (wait.Crecv (record { 0 = q }))
  unfolding serve
  channel_empty at ring is taken = ap (λ (l : Call). serve c n l (channel_outside ring)) is ∙ ap (serve_receive q at p) taken

  -- there is no channel to receive from
  pub no_channel_from : (at : ℕ) (out : Outside) → call ≡ receives q at p → ((r : Channel) → out ≡ outside.Channel r → ⊥) → serve c n call (outside_seen out) ≡ held_up (wait.Crecv (record { 0 = q }))
  unfolding serve
  no_channel_from at outside.Nothing is none = ap (λ (l : Call). serve c n l (outside_seen outside.Nothing)) is
  no_channel_from at (outside.Channel r) is none = absurd (none r refl)
  no_channel_from at (outside.Line w) is none = ap (λ (l : Call). serve c n l (outside_seen (outside.Line w))) is
  no_channel_from at (outside.Console ws) is none = ap (λ (l : Call). serve c n l (outside_seen (outside.Console ws))) is

-- a block with a message in its memory, whose dispatcher went on
pub memory_received : (y before : ControlBlock) (memory : List ℕ) (at : ℕ) (m : Message) (d : ℕ) (x : Context) → y ≡ before → memory ≡ with_words at m.0 y.parts.memory →
    ◌≡◌ {A = ControlBlock} (record y { parts = with_next_place d x (record y.parts { memory = memory }) }) (record before { parts = with_message at m (with_next_place d x before.parts) })
memory_received y before memory at m d x is written =
    ap (λ ws. record y { parts = with_next_place d x (record y.parts { memory = ws }) }) written
    ∙ ap (λ (z : ControlBlock). record z { parts = with_message at m (with_next_place d x z.parts) }) is
