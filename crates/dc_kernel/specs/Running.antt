-- A block under a kernel.
use Rattle.std.specs.Prelude.{ℕ, ◌<◌, ◌^◌, ℤ, pos, ◌+ℤ◌, ◌-ℤ◌, ◌≤ℤ◌}
use Rattle.dc_base.specs.declared.kernels.Version.{Version}
use Rattle.dc_base.specs.ControlBlocks.{ControlBlock}
use Rattle.dc_base.specs.States.{Block, on, time_on}
use Rattle.dc_kcb.specs.Wholes.{Resting}

pub record Running : Type 0 where
  pub control : ControlBlock
  -- the block's time less the core's clock
  pub offset : ℤ
  pub version : Version

-- the block of the machine, on this core
abbrev pub on_core : ℕ → Running → Block
on_core c r = record { control = r.control; whereabouts = on c r.offset r.version }

-- the block's time, where the core's clock stands so
abbrev pub time_in : ℕ → Running → ℕ
time_in now r = time_on now r.offset

-- the clock and the block's time are from 0 to 2^63 - 1
pub record IsTimely (now : ℕ) (r : Running) : Type 0 where
  pub clock : now < 2 ^ 63
  pub from_zero : pos 0 ≤ℤ (pos now +ℤ r.offset)
  pub time : time_in now r < 2 ^ 63

-- a block at rest goes on at its kept time
abbrev pub adopted : Version → Resting → ℕ → Running
adopted v k now = record { control = k.control; offset = pos k.kept -ℤ pos now; version = v }

-- the block at rest, with the time of that moment
abbrev pub surrendered : ℕ → Running → Resting
surrendered now r = record { control = r.control; kept = time_in now r }
