-- What a core does next.
use Rattle.std.specs.Prelude.{◌≡◌, ℕ, List, Option, Some, None, find}
use Rattle.dc_base.specs.declared.entries.What.{What}
use Rattle.dc_base.specs.declared.entries.What.TheVariants as what
use Rattle.dc_base.specs.declared.numbers.BlockNo.{BlockNo}
use Rattle.dc_base.specs.declared.numbers.DispNo.{DispNo}
use Rattle.dc_base.specs.States.{Core, Block}
use Rattle.dc_base.specs.Steps.{is_runnable}
use Rattle.dc_base.specs.IdleTurns.{next_due}
use Rattle.dc_base.specs.Turns.{Looked}
use Rattle.dc_base.specs.Words.{lesser}
use Rattle.dc_calls.specs.declared.sliced.Sliced.{Sliced}
use Rattle.dc_bodies.specs.declared.nexts.Next.{Next}
use Rattle.dc_bodies.specs.declared.nexts.Next.TheVariants as next

-- the least of two clocks, where there are any
abbrev pub earlier : Option ℕ → Option ℕ → Option ℕ
earlier o None = o
earlier o (Some n) = Some (lesser n o)

-- the first block that can run
abbrev pub first_runnable : Core → List Looked → Option Looked
first_runnable k share = find (is_runnable k.clock) share

-- a slice of the first block that can run, or idle until the first timer is due, or nothing
abbrev pub IsNext : Core → List Looked → Next → Type 0
IsNext k share next.Nothing = (first_runnable k share ≡ None) × (next_due share ≡ None)
IsNext k share (next.Idle clock) = (first_runnable k share ≡ None) × (next_due share ≡ Some clock)
IsNext k share (next.Slice b) = (x : Block) × (first_runnable k share ≡ Some (record { number = b.0; found = Some x }))

abbrev pub what_by : BlockNo → Sliced → ℕ → Option DispNo → What
what_by b s clock None = what.SliceNone b s.fired clock
what_by b s clock (Some d) = what.Slice b d s.fired s.ran s.end clock

-- what the entry of a slice says
abbrev pub slice_what : BlockNo → Sliced → ℕ → What
slice_what b s clock = what_by b s clock s.disp
