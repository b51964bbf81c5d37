-- The clock of a core that may be given.
use Rattle.std.specs.Prelude.{ℕ, List, Option, Some, None}
use Rattle.dc_base.specs.States.{Core, clock_of}

-- the clock of the core, or 0 without one
abbrev pub clock_on : List Core → Option ℕ → ℕ
clock_on cores None = 0
clock_on cores (Some c) = clock_of cores c
