-- What a kernel keeps.
use Rattle.std.specs.Prelude.{◌^◌, Bool, true, false, ℤ, pos, ◌+ℤ◌, ◌≤ℤ◌, ◌<ℤ◌}
use Rattle.dc_base.specs.declared.kernels.Version.{Version}
use Rattle.dc_base.specs.declared.kernels.Version.TheVariants.{Rr, Edf}
use Rattle.dc_base.specs.ControlBlocks.{ControlBlock}
use Rattle.dc_block_sound.specs.SoundControls.{IsSoundControl}

-- its block is sound, and its time is less than 2^64 from the core's clock
pub record IsKept (x : ControlBlock) (offset : ℤ) : Type 0 where
  pub sound : IsSoundControl x
  pub behind : pos 0 ≤ℤ (offset +ℤ pos (2 ^ 64))
  pub ahead : offset <ℤ pos (2 ^ 64)

abbrev pub is_version : Version → Version → Bool
is_version Rr Rr = true
is_version Edf Edf = true
is_version v w = false
