-- Blocks, as the definitions have them, and what a slice of one asks for.
use Rattle.std.specs.Prelude.{◌<◌, ◌-◌, ◌^◌, ℕ, pos, ⊤}
use Rattle.dc_base.specs.declared.kernels.Version.TheVariants.{Rr}
use Rattle.dc_base.specs.Words.{Each}
use Rattle.dc_base.specs.States.{Block, Whereabouts, rest, on}
use Rattle.dc_kernel.specs.Running.{Running, IsTimely, on_core}
use Rattle.dc_objects.specs.declared.blocks.Form.{Form}
use Rattle.dc_objects.specs.declared.blocks.Form.TheVariants as form

abbrev pub block_seen : {D : Type 0} → (D → Running) → Form D → Block
block_seen held (form.Rest k) = record { control = k.control; whereabouts = rest k.kept }
block_seen held (form.Held c kernel) = on_core c.0 (held kernel)

abbrev pub IsHeldAt : Whereabouts → Type 0
IsHeldAt (rest kept) = ⊥
IsHeldAt (on c offset v) = ⊤

-- the block is on a core
abbrev pub IsHeld : Block → Type 0
IsHeld x = IsHeldAt x.whereabouts

abbrev pub running_at : Block → Whereabouts → Running
running_at x (rest kept) = record { control = x.control; offset = pos kept; version = Rr }
running_at x (on c offset v) = record { control = x.control; offset = offset; version = v }

-- a block on a core as its kernel has it
abbrev pub running_of : Block → Running
running_of x = running_at x x.whereabouts

-- the block is on a core; the core's clock and the block's time are within bounds
pub record IsTimed (clock : ℕ) (x : Block) : Type 0 where
  pub held : IsHeld x
  pub timely : IsTimely clock (running_of x)

-- one more timer can be armed, and the dues can grow
pub record CanSlice (x : Block) : Type 0 where
  pub timers : x.control.parts.next_timer < 2 ^ 32 - 1
  pub dues : Each x.control.dues (λ d due. due < 2 ^ 63)
