-- What is read of a control block.
use Rattle.std.specs.Prelude.{ℕ, Option, slice_get}
use Rattle.std.specs.Option.{option_map}
use Rattle.dc_base.specs.Words.{bind}
use Rattle.dc_base.specs.ControlBlocks.{ControlBlock}
use Rattle.dc_isa.specs.declared.dispatchers.Dispatcher.{Dispatcher}

-- dispatcher d with all that the block has of it
unfoldable pub disp_at : ControlBlock → ℕ → Option Dispatcher
disp_at x d =
    bind (slice_get x.parts.contexts d) (λ c. bind (slice_get x.states d) (λ state. bind (slice_get x.dues d) (λ due.
    option_map (λ period. record { regs = c.regs; place = c.place; state = state; due = due; period = period }) (slice_get x.periods d))))
