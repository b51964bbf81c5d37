-- What the columns of a core's entry other than a slice must show of the machine of blocks: idle, wake and intake.
use Rattle.std.specs.Prelude.{ℕ, ◌+◌, ◌-◌, List, [], Bool, false, ◌==◌, ◌&&◌, ◌||◌, Option, Some, None, slice_get, map}
use Rattle.dc_base.specs.declared.calls.Op.TheVariants as op
use Rattle.dc_base.specs.declared.interrupts.Latched.{Latched}
use Rattle.dc_base.specs.declared.interrupts.Latched.TheVariants as latched
use Rattle.dc_base.specs.declared.interrupts.Timer.{Timer}
use Rattle.dc_base.specs.Words.{is_number}
use Rattle.dc_base.specs.Same.{is_same_latched}
use Rattle.dc_base.specs.Effects.{Move, is_call_of}
use Rattle.dc_base.specs.Ports.{latch_at, how_latched}
use Rattle.dc_base.specs.Lines.{Line, pending_in}
use Rattle.dc_base.specs.Blocks.{Blocks, Block}

-- how long until each timer of a block is due
abbrev pub waits_of : Option Block → List ℕ
waits_of None = []
waits_of (Some x) = map (λ (t : Timer). t.deadline - x.clock) x.parts.timers

-- an idle entry takes the clock to the first timer of the blocks that the core holds
abbrev pub idle_agrees : ℕ → ℕ → Option ℕ → Bool
idle_agrees before clock None = false
idle_agrees before clock (Some n) = clock == before + n

-- a dispatcher that wakes stands at a csend or a crecv
abbrev pub at_channel : Option Move → Bool
at_channel None = false
at_channel (Some m) = is_call_of op.Csend m || is_call_of op.Crecv m

-- the columns of an intake: the raise by its number, where it goes, and what becomes of it there
pub record IntakeColumns : Type 0 where
  pub number : ℕ
  pub block : ℕ
  pub signal : ℕ
  pub how : Latched

abbrev pub is_bound_to : ℕ → ℕ → Option (ℕ × ℕ) → Bool
is_bound_to b s None = false
is_bound_to b s (Some to) = to.0 == b && to.1 == s

-- how a latch comes to this signal
abbrev pub latched_on : Option Block → ℕ → Latched
latched_on None s = latched.Coalesced
latched_on (Some x) s = how_latched (latch_at x.parts.signals s)

-- an intake takes the line's pending raise to the signal that the line is bound to
abbrev pub intake_agrees : Blocks → IntakeColumns → Option Line → Bool
intake_agrees s intake None = false
intake_agrees s intake (Some l) =
    is_number intake.number (pending_in l.fates) &&
    (is_bound_to intake.block intake.signal l.bound && is_same_latched intake.how (latched_on (slice_get s.blocks intake.block) intake.signal))
