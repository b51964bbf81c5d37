-- What every control block keeps.
use Rattle.std.specs.Prelude.{◌≡◌, ℕ, ◌<◌, ◌≤◌, ◌*◌, List, Bool, true, false, ◌==◌, Option, Some, IfSome, slice_get, length, count_by, ⊤}
use Rattle.dc_base.specs.declared.dispatchers.DispState.{DispState}
use Rattle.dc_base.specs.declared.dispatchers.DispState.TheVariants as disp
use Rattle.dc_base.specs.declared.interrupts.Latch.{Latch}
use Rattle.dc_base.specs.declared.interrupts.Timer.{Timer}
use Rattle.dc_base.specs.declared.messages.Message.{Message}
use Rattle.dc_base.specs.Words.{Each, count_of}
use Rattle.dc_base.specs.Limits.{most_disps, most_ports, most_signals, memory_words, code_room, register_count, disp_slots, longest_period, timer_room}
use Rattle.dc_base.specs.Limits.{port_room, word_limit}
use Rattle.dc_base.specs.Traps.{last_trap}
use Rattle.dc_base.specs.Effects.{Context}
use Rattle.dc_base.specs.Capabilities.{Seat, is_used}
use Rattle.dc_base.specs.ControlBlocks.{ControlBlock}
use Rattle.dc_base.specs.States.{State}

-- its lists have the lengths that belong together, within the limits
pub record HasShape (x : ControlBlock) : Type 0 where
  pub memory : length x.parts.memory ≡ memory_words
  pub some : 0 < length x.states
  pub disps : length x.states ≤ most_disps
  pub code : length x.parts.code ≡ length x.states
  pub contexts : length x.parts.contexts ≡ length x.states
  pub dues : length x.dues ≡ length x.states
  pub periods : length x.periods ≡ length x.states
  pub ports : length x.parts.ports ≤ most_ports
  pub signals : length x.parts.signals ≤ most_signals

abbrev pub IsTrapNumber : DispState → Type 0
IsTrapNumber (disp.Trapped x) = (0 < x) × (x ≤ last_trap)
IsTrapNumber state = ⊤

-- each dispatcher is within the limits
pub record HasDispatchers (x : ControlBlock) : Type 0 where
  pub code : Each x.parts.code (λ d code. (0 < length code) × (length code ≤ code_room))
  pub regs : Each x.parts.contexts (λ d (c : Context). length c.regs ≡ register_count)
  pub places : Each x.parts.contexts (λ d (c : Context). c.place ≤ 65535)
  pub periods : Each x.periods (λ d n. (0 < n) × (n ≤ longest_period))
  pub traps : Each x.states (λ d state. IsTrapNumber state)

abbrev pub AreWords : List ℕ → Type 0
AreWords ws = Each ws (λ i w. w < word_limit)

abbrev pub IsMessage : Message → Type 0
IsMessage m = (length m.0 ≡ 4) × AreWords m.0

-- each word has 32 bits
pub record HasWords (x : ControlBlock) : Type 0 where
  pub memory : AreWords x.parts.memory
  pub code : Each x.parts.code (λ d code. AreWords code)
  pub regs : Each x.parts.contexts (λ d (c : Context). AreWords c.regs)
  pub timers : Each x.parts.timers (λ i (t : Timer). t.value < word_limit)
  pub messages : Each x.parts.ports (λ p ms. Each ms (λ i m. IsMessage m))
  pub latches : Each x.parts.signals (λ i o. IfSome o (λ (l : Latch). l.value < word_limit))

-- no port has more messages than it takes
abbrev pub HasPorts : ControlBlock → Type 0
HasPorts x = Each x.parts.ports (λ p ms. length ms ≤ port_room)

abbrev pub is_ready : Option DispState → Bool
is_ready (Some disp.Ready) = true
is_ready o = false

-- each ready dispatcher stands in the ready list once, and no other
abbrev pub HasReady : ControlBlock → Type 0
HasReady x = (d : ℕ) → count_by (λ e. e == d) x.ready ≡ count_of (is_ready (slice_get x.states d))

-- the numbers of the armed timers ascend below the next, and there is room for each
pub record HasTimers (x : ControlBlock) : Type 0 where
  pub ascending : (i j : ℕ) (t u : Timer) → i < j → slice_get x.parts.timers i ≡ Some t → slice_get x.parts.timers j ≡ Some u → t.number < u.number
  pub below : Each x.parts.timers (λ i (t : Timer). t.number < x.parts.next_timer)
  pub room : length x.parts.timers ≤ timer_room

-- a rank falls from each slot to its parent
abbrev pub Falls : (ℕ → ℕ) → List Seat → Type 0
Falls rank caps = Each caps (λ i (h : Seat). IfSome h.parent (λ p. rank p < rank h.slot))

-- the slots ascend, each belongs to a dispatcher, its parent is used, and going from parent to parent ends at a root
pub record HasCaps (x : ControlBlock) : Type 0 where
  pub ascending : (i j : ℕ) (h k : Seat) → i < j → slice_get x.parts.caps i ≡ Some h → slice_get x.parts.caps j ≡ Some k → h.slot < k.slot
  pub slots : Each x.parts.caps (λ i (h : Seat). h.slot < disp_slots * length x.states)
  pub rights : Each x.parts.caps (λ i (h : Seat). h.cap.rights ≤ 7)
  pub parents : Each x.parts.caps (λ i (h : Seat). IfSome h.parent (λ p. is_used x.parts.caps p ≡ true))
  pub roots : (rank : ℕ → ℕ) × Falls rank x.parts.caps

-- each of these holds of every block
abbrev pub AllShapes : State → Type 0
AllShapes s = Each s.blocks (λ b x. HasShape x.control)

abbrev pub AllDispatchers : State → Type 0
AllDispatchers s = Each s.blocks (λ b x. HasDispatchers x.control)

abbrev pub AllWords : State → Type 0
AllWords s = Each s.blocks (λ b x. HasWords x.control)

abbrev pub AllPorts : State → Type 0
AllPorts s = Each s.blocks (λ b x. HasPorts x.control)

abbrev pub AllReady : State → Type 0
AllReady s = Each s.blocks (λ b x. HasReady x.control)

abbrev pub AllTimers : State → Type 0
AllTimers s = Each s.blocks (λ b x. HasTimers x.control)

abbrev pub AllCaps : State → Type 0
AllCaps s = Each s.blocks (λ b x. HasCaps x.control)
