-- What a slice makes of the objects that it touches, whatever stands elsewhere.
use Rattle.std.specs.Prelude.{◌≡◌, ℕ, ◌∷◌, Some}
use Rattle.dc_base.specs.declared.calls.Need.{Need}
use Rattle.dc_base.specs.declared.entries.Entry.{Entry}
use Rattle.dc_base.specs.Changes.{core_becomes, block_becomes}
use Rattle.dc_base.specs.Serving.{Outside}
use Rattle.dc_base.specs.States.{State, Core, Block, with_control}
use Rattle.dc_base.specs.NeededLooks.{outside_change}
use Rattle.dc_base.specs.SliceTurns.{slice_turn}
use Rattle.dc_base.specs.Turns.{did, outcome}
use Rattle.dc_kernel.specs.declared.drivers.Begun.{Begun}
use Rattle.dc_kernel.specs.Begins.{IsBegun}
use Rattle.dc_kernel.specs.Turned.{look_here}
use Rattle.dc_objects.specs.Blocks.{running_of}
use Rattle.dc_bodies.specs.InHand.{IsInHand}
use Rattle.dc_bodies.specs.OutsideKinds.{SameKind}

-- a slice of block b, whose call needs n, took the core, the block and the object outside from the first to the second
pub record IsSlice (c b : ℕ) (k k' : Core) (x x' : Block) (n : Need) (o o' : Outside) (e : Entry) : Type 0 where
  pub turn : (s : State) → o ≡ look_here k.settings s b n →
      outcome s (slice_turn c k b (Some x)) ≡ did (core_becomes c k' ∷ block_becomes b x' ∷ outside_change b n o') e
  pub kind : (s : State) → o ≡ look_here k.settings s b n → SameKind (look_here k.settings s b n) o'

-- a slice of block x of core c has begun, and took it to the second
pub record HasBegun (c : ℕ) (k : Core) (x x' : Block) (b : Begun) : Type 0 where
  pub hand : IsInHand c k.clock x
  pub begun : IsBegun k.settings.quantum k.clock (running_of x) (running_of x') b
  pub block : x' ≡ with_control x'.control x
