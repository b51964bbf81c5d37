-- What every control block keeps by itself.
use Rattle.std.specs.Prelude.{ℕ, ◌+◌, ◌<◌, ◌≤◌, IfSome, length, ⊤}
use Rattle.dc_base.specs.declared.calls.Need.{Need}
use Rattle.dc_base.specs.declared.calls.Need.TheVariants as needs
use Rattle.dc_base.specs.declared.capabilities.CapKind.{CapKind}
use Rattle.dc_base.specs.declared.capabilities.CapKind.TheVariants as kind
use Rattle.dc_base.specs.declared.dispatchers.DispState.{DispState}
use Rattle.dc_base.specs.declared.dispatchers.DispState.TheVariants as disp
use Rattle.dc_base.specs.declared.dispatchers.Wait.TheVariants as wait
use Rattle.dc_base.specs.declared.interrupts.Timer.{Timer}
use Rattle.dc_base.specs.Words.{Each}
use Rattle.dc_base.specs.Capabilities.{Seat}
use Rattle.dc_base.specs.ControlBlocks.{ControlBlock}
use Rattle.dc_base.specs.KeptByBlocks.{HasShape, HasDispatchers, HasPorts, HasReady, HasTimers, HasCaps}
use Rattle.dc_base.specs.Serving.{Outside, nothing_outside, console_outside, channel_outside, line_outside}

-- a capability of memory, a port or a signal names what exists
abbrev pub NamesOwn : ControlBlock → CapKind → Type 0
NamesOwn x (kind.Ram f l) = (0 < l) × (f + l ≤ 4096)
NamesOwn x (kind.Frame f l) = (0 < l) × (f + l ≤ 4096)
NamesOwn x (kind.Port p) = p.0 < length x.parts.ports
NamesOwn x (kind.Signal i) = i.0 < length x.parts.signals
NamesOwn x k = ⊤

-- a waiter on a port or a signal names one that exists
abbrev pub WaitsOwn : ControlBlock → DispState → Type 0
WaitsOwn x (disp.Waits (wait.Send p)) = p.0 < length x.parts.ports
WaitsOwn x (disp.Waits (wait.Recv p)) = p.0 < length x.parts.ports
WaitsOwn x (disp.Waits (wait.Signal i)) = i.0 < length x.parts.signals
WaitsOwn x state = ⊤

-- its capabilities, waiters and timers name ports and signals that exist
pub record NamesWithin (x : ControlBlock) : Type 0 where
  pub caps : Each x.parts.caps (λ i (h : Seat). NamesOwn x h.cap.kind)
  pub waiters : Each x.states (λ d state. WaitsOwn x state)
  pub timers : Each x.parts.timers (λ i (t : Timer). t.signal.0 < length x.parts.signals)

-- a control block keeps what needs nothing outside it
pub record IsSoundControl (x : ControlBlock) : Type 0 where
  pub shape : HasShape x
  pub dispatchers : HasDispatchers x
  pub ports : HasPorts x
  pub ready : HasReady x
  pub timers : HasTimers x
  pub caps : HasCaps x
  pub names : NamesWithin x

-- the same while a dispatcher runs, which is out of the ready list
pub record IsSoundBesideReady (x : ControlBlock) : Type 0 where
  pub shape : HasShape x
  pub dispatchers : HasDispatchers x
  pub ports : HasPorts x
  pub timers : HasTimers x
  pub caps : HasCaps x
  pub names : NamesWithin x

-- the object that a call needs, or nothing where there is none; offered rights are at most 7
abbrev pub Suits : Need → Outside → Type 0
Suits n nothing_outside = ⊤
Suits needs.Console (console_outside ws) = ⊤
Suits (needs.Channel x) (channel_outside r) = ⊤
Suits (needs.Line l) (line_outside w) = IfSome w.offer (λ (o : ℕ × ℕ). o.1 ≤ 7)
Suits n out = ⊥
