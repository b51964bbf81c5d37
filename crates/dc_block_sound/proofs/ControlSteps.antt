-- What becomes of a control block, one change after another.
use Rattle.std.proofs.Common.{◌≡◌, ℕ, ◌+◌, ◌*◌, ◌<◌, ◌≤◌, ◌^◌, List, ◌∷◌, Bool, true, false, Some, None, length, map}
use Rattle.std.specs.Prelude.{slice_get, slice_set, ⊤}
use Rattle.dc_base.specs.declared.capabilities.Cap.{Cap}
use Rattle.dc_base.specs.declared.capabilities.CapKind.{CapKind}
use Rattle.dc_base.specs.declared.capabilities.CapKind.TheVariants as kind
use Rattle.dc_base.specs.declared.dispatchers.DispState.{DispState}
use Rattle.dc_base.specs.declared.dispatchers.DispState.TheVariants as disp
use Rattle.dc_base.specs.declared.dispatchers.Wait.{Wait}
use Rattle.dc_base.specs.declared.dispatchers.Wait.TheVariants as wait
use Rattle.dc_base.specs.declared.interrupts.Latch.{Latch}
use Rattle.dc_base.specs.declared.interrupts.Source.TheVariants as source
use Rattle.dc_base.specs.declared.interrupts.Timer.{Timer}
use Rattle.dc_base.specs.declared.messages.Message.{Message}
use Rattle.dc_base.specs.Effects.{Context, with_reg, at_next_place, goes, act}
use Rattle.dc_base.specs.Capabilities.{Seat, cap_at, is_used, with_child, after_delete, after_revoke, without_line}
use Rattle.dc_base.specs.Timers.{without_timer}
use Rattle.dc_base.specs.Ports.{messages_in, ports_after_send, latch_at, signals_after}
use Rattle.dc_base.specs.Channels.{Ring}
use Rattle.dc_base.specs.Lines.{Wire, line_latch}
use Rattle.dc_base.specs.Parts.{Parts, with_context, with_message, words_at}
use Rattle.dc_base.specs.Kernel.{with_next_place, with_timer, with_mask, memory_cap, with_claimed}
use Rattle.dc_base.specs.ControlBlocks.{ControlBlock}
use Rattle.dc_base.specs.Firing.{state_after_wake}
use Rattle.dc_base.specs.Named.{is_channel_call, instr_of}
use Rattle.dc_base.specs.States.{State}
use Rattle.dc_base.specs.KeptByBlocks.{AllReady}

-- a slot holds a capability of this kind
abbrev pub Holds : Parts → CapKind → Type 0
Holds p k = (slot : ℕ) × (cap : Cap) × (cap_at p.caps slot ≡ Some cap) × (cap.kind ≡ k)

-- four words from the address on are within a frame that a slot holds
abbrev pub InFrame : Parts → ℕ → Type 0
InFrame p address = (f : ℕ) × (l : ℕ) × Holds p (kind.Frame f l) × (address + 4 ≤ f + l)

-- dispatcher d has this code and context, and a word stands at its place; it is ready, where the ready lists of the state are
pub record Runs (s : State) (x : ControlBlock) (d : ℕ) (code : List ℕ) (c : Context) : Type 0 where
  pub ready : AllReady s → slice_get x.states d ≡ Some disp.Ready
  pub code_at : slice_get x.parts.code d ≡ Some code
  pub context_at : slice_get x.parts.contexts d ≡ Some c
  pub word : ℕ
  pub word_at : slice_get code c.place ≡ Some word

-- what dispatcher d may wait for
abbrev pub MayWait : ControlBlock → ℕ → Wait → Type 0
MayWait x d (wait.Send p) = Holds x.parts (kind.Port p)
MayWait x d (wait.Recv p) = Holds x.parts (kind.Port p)
MayWait x d (wait.Signal i) = Holds x.parts (kind.Signal i)
MayWait x d (wait.Csend y) = Holds x.parts (kind.SendEnd y) × (is_channel_call (instr_of x.parts d) ≡ true)
MayWait x d (wait.Crecv y) = Holds x.parts (kind.RecvEnd y) × (is_channel_call (instr_of x.parts d) ≡ true)

-- it waits for nothing, and its trap is one that there is
abbrev pub IsStill : DispState → Type 0
IsStill (disp.Waits w) = ⊥
IsStill (disp.Trapped n) = (0 < n) × (n ≤ 12)
IsStill state = ⊤

abbrev pub with_parts : ControlBlock → Parts → ControlBlock
with_parts x p = record x { parts = p }

abbrev pub with_caps : ControlBlock → List Seat → ControlBlock
with_caps x caps = record x { parts = record x.parts { caps = caps } }

abbrev pub timer_latch : Timer → Latch
timer_latch t = record { source = source.Timer; value = t.value }

-- one change of a control block, of which dispatcher d runs or is woken; C tells the lines that may be claimed
pub data Step (s : State) (d : ℕ) (C : ℕ → Type 0) : ControlBlock → ControlBlock → Type 0 where
  readied : (x : ControlBlock) (ready : List ℕ) → Step s d C x (record x { ready = ready })
  due_grew : (x : ControlBlock) (dues : List ℕ) → length dues ≡ length x.dues → Step s d C x (record x { dues = dues })
  woken : (x : ControlBlock) (w : Wait) → Step s d C x (record x { states = map (state_after_wake w) x.states })
  stands_still : (x : ControlBlock) (state : DispState) → IsStill state → Step s d C x (record x { states = slice_set x.states d state })
  held_up : (x : ControlBlock) (w : Wait) → MayWait x d w → Step s d C x (record x { states = slice_set x.states d (disp.Waits w) })
  fired : (x : ControlBlock) (i : ℕ) (t : Timer) → slice_get x.parts.timers i ≡ Some t →
      Step s d C x (with_parts x (record x.parts { timers = without_timer t x.parts.timers; signals = signals_after t.signal.0 (timer_latch t) x.parts.signals }))
  latched : (x : ControlBlock) (signal l n : ℕ) (w : Wire) → slice_get s.lines l ≡ Some w → w.pending ≡ Some n →
      Step s d C x (with_parts x (record x.parts { signals = signals_after signal (line_latch l n) x.parts.signals }))
  went : (x : ControlBlock) (time : ℕ) (code : List ℕ) (c : Context) (new : Context) (memory : List ℕ) → Runs s x d code c → act time code c x.parts.memory ≡ goes new memory →
      Step s d C x (with_parts x (with_context x.parts d new memory))
  moved_on : (x : ControlBlock) (code : List ℕ) (c : Context) → Runs s x d code c → Step s d C x (with_parts x (with_next_place d c x.parts))
  latch_taken : (x : ControlBlock) (code : List ℕ) (c : Context) (signal b : ℕ) (l : Latch) → Runs s x d code c → latch_at x.parts.signals signal ≡ Some l →
      Step s d C x (with_parts x (record x.parts { contexts = slice_set x.parts.contexts d (at_next_place (with_reg c b l.value)); signals = slice_set x.parts.signals signal None }))
  port_sent : (x : ControlBlock) (p address : ℕ) → InFrame x.parts address → length (messages_in x.parts.ports p) < 8 →
      Step s d C x (with_parts x (record x.parts { ports = ports_after_send p (words_at x.parts.memory address) x.parts.ports }))
  port_taken : (x : ControlBlock) (p address : ℕ) (m : Message) (ms : List Message) → messages_in x.parts.ports p ≡ m ∷ ms →
      Step s d C x (with_parts x (with_message address m (record x.parts { ports = slice_set x.parts.ports p ms })))
  received : (x : ControlBlock) (y address : ℕ) (r : Ring) (m : Message) (ms : List Message) → slice_get s.channels y ≡ Some r → r.untaken ≡ m ∷ ms →
      Step s d C x (with_parts x (with_message address m x.parts))
  armed : (x : ControlBlock) (deadline signal value : ℕ) → length x.parts.timers < 64 → Holds x.parts (kind.Signal (record { 0 = signal })) → value < 2 ^ 16 →
      Step s d C x (with_parts x (with_timer deadline signal value x.parts))
  copied : (x : ControlBlock) (from slot mask : ℕ) (cap : Cap) → cap_at x.parts.caps from ≡ Some cap → is_used x.parts.caps slot ≡ false → slot < 16 * length x.parts.code →
      Step s d C x (with_caps x (with_child from slot (with_mask mask cap) x.parts.caps))
  retyped : (x : ControlBlock) (from slot : ℕ) (into_frame : Bool) (f l offset size : ℕ) (cap : Cap) → cap_at x.parts.caps from ≡ Some cap → cap.kind ≡ kind.Ram f l → 0 < size → offset + size ≤ l →
      is_used x.parts.caps slot ≡ false → slot < 16 * length x.parts.code →
      Step s d C x (with_caps x (with_child from slot (memory_cap into_frame (f + offset) size cap.rights) x.parts.caps))
  deleted : (x : ControlBlock) (slot : ℕ) → Step s d C x (with_caps x (after_delete slot x.parts.caps))
  revoked : (x : ControlBlock) (slot : ℕ) → Step s d C x (with_caps x (after_revoke slot x.parts.caps))
  given : (x : ControlBlock) (l : ℕ) → Step s d C x (with_caps x (without_line l x.parts.caps))
  claimed : (x : ControlBlock) (l slot y rights : ℕ) (w : Wire) → slice_get s.lines l ≡ Some w → w.offer ≡ Some (y, rights) → is_used x.parts.caps slot ≡ false → slot < 16 * length x.parts.code → C l →
      Step s d C x (with_parts x (with_claimed l slot rights x.parts))

-- each change keeps P
abbrev pub StepKeeps : State → (ControlBlock → Type 0) → Type 1
StepKeeps s P = (d : ℕ) (C : ℕ → Type 0) (x y : ControlBlock) → Step s d C x y → P x → P y

-- each change keeps P where Q holds
abbrev pub StepKeepsUnder : State → (ControlBlock → Type 0) → (ControlBlock → Type 0) → Type 1
StepKeepsUnder s Q P = (d : ℕ) (C : ℕ → Type 0) (x y : ControlBlock) → Step s d C x y → Q x → P x → P y

-- changes one after another
pub data Steps (s : State) (d : ℕ) (C : ℕ → Type 0) : ControlBlock → ControlBlock → Type 0 where
  none : (x : ControlBlock) → Steps s d C x x
  further : (x y z : ControlBlock) → Step s d C x y → Steps s d C y z → Steps s d C x z

module _ (s : State) (d : ℕ) (C : ℕ → Type 0) where
  pub one : (x y : ControlBlock) → Step s d C x y → Steps s d C x y
  one x y st = further x y y st (none y)

  pub joined : (x y z : ControlBlock) → Steps s d C x y → Steps s d C y z → Steps s d C x z
  joined x y z (none _) q = q
  joined x y z (further _ u _ st p) q = further x u z st (joined u y z p q)

  pub last : (x y z : ControlBlock) → Steps s d C x y → Step s d C y z → Steps s d C x z
  last x y z p st = joined x y z p (one y z st)

  -- what each change keeps, given what else holds, all changes keep
  pub kept_along : (Q P : ControlBlock → Type 0) → ((x y : ControlBlock) → Step s d C x y → Q x → Q y) → ((x y : ControlBlock) → Step s d C x y → Q x → P x → P y) → (x y : ControlBlock) → Steps s d C x y → Q x → P x → P y
  kept_along Q P q p x y (none _) h k = k
  kept_along Q P q p x y (further _ u _ st more) h k = kept_along Q P q p u y more (q x u st h) (p x u st h k)

  pub kept_by : (P : ControlBlock → Type 0) → ((x y : ControlBlock) → Step s d C x y → P x → P y) → (x y : ControlBlock) → Steps s d C x y → P x → P y
  kept_by P p x y (none _) k = k
  kept_by P p x y (further _ u _ st more) k = kept_by P p u y more (p x u st k)
