-- A slice that has begun of a block in its place.
use Rattle.std.specs.Prelude.{◌≡◌, ℕ, slice_set}
use Rattle.dc_base.specs.States.{State, Core, Block}
use Rattle.dc_kernel.specs.declared.drivers.Begun.{Begun}
use Rattle.dc_bodies.specs.Sliced.{HasBegun}

-- a slice of block b of core c has begun, and nothing else changed
pub record BeginsAt (c b : ℕ) (s s' : State) (k : Core) (x : Block) (begun : Begun) : Type 0 where
  pub now : Block
  pub has : HasBegun c k x now begun
  pub state : s' ≡ record s { blocks = slice_set s.blocks b now }
