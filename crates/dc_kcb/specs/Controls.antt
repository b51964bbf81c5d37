-- The control block that a block's fields stand for.
use Rattle.std.specs.Prelude.{ℕ, List, Option, map}
use Rattle.dc_base.specs.declared.dispatchers.DispState.{DispState}
use Rattle.dc_base.specs.declared.interrupts.Latch.{Latch}
use Rattle.dc_base.specs.declared.interrupts.Timer.{Timer}
use Rattle.dc_base.specs.declared.messages.Message.{Message}
use Rattle.dc_base.specs.Capabilities.{Seat}
use Rattle.dc_base.specs.ControlBlocks.{ControlBlock}
use Rattle.dc_isa.specs.declared.dispatchers.Dispatcher.{Dispatcher}
use Rattle.dc_exec.specs.Steps.{context_of}
use Rattle.dc_ready.specs.Entries.{dispatchers}

-- what a block has beside its dispatchers and what wakes them
pub record Store : Type 0 where
  pub memory : List ℕ
  pub code : List (List ℕ)
  pub caps : List Seat
  pub ports : List (List Message)

-- the dispatchers of a block, and what wakes them: signals, the ready list with dues, and armed timers
pub record Agenda : Type 0 where
  pub disps : List Dispatcher
  pub signals : List (Option Latch)
  pub ready : List (ℕ × ℕ)
  pub timers : List Timer
  pub next_timer : ℕ

abbrev pub state_of : Dispatcher → DispState
state_of d = d.state

abbrev pub due_of : Dispatcher → ℕ
due_of d = d.due

abbrev pub period_of : Dispatcher → ℕ
period_of d = d.period

abbrev pub control_of : Store → Agenda → ControlBlock
control_of s a = record {
  parts =
      record {
        memory = s.memory;
        code = s.code;
        contexts = map context_of a.disps;
        caps = s.caps;
        timers = a.timers;
        next_timer = a.next_timer;
        ports = s.ports;
        signals = a.signals;
      };
  states = map state_of a.disps;
  dues = map due_of a.disps;
  periods = map period_of a.disps;
  ready = dispatchers a.ready;
}
