-- What a dispatcher of a control block has of its own.
use Rattle.std.specs.Prelude.{ℕ, slice_set}
use Rattle.dc_base.specs.Effects.{Context}
use Rattle.dc_base.specs.ControlBlocks.{ControlBlock}

-- dispatcher d goes on with this context
abbrev pub at_context : ℕ → Context → ControlBlock → ControlBlock
at_context d c x = record x { parts = record x.parts { contexts = slice_set x.parts.contexts d c } }
