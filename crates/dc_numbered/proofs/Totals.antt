-- How many objects there are.
use Rattle.std.proofs.Common.{◌≡◌, ◌+◌, ◌≤◌, refl, length, length-append, arith}
use Rattle.std.proofs.lemmas.List.{length-map}
use Rattle.dc_base.specs.Bounded.{AreLimited}
use Rattle.dc_base.specs.Objects.{objects, HasSizes}
use Rattle.dc_base.specs.States.{State, Settings}

-- those of each kind and the script
pub objects_by_kind : (s : State) →
    length (objects s) ≡ length s.cores + length s.blocks + length s.channels + length s.lines + length s.mailboxes + length s.consoles + 1
unfolding objects
objects_by_kind s = simp (length-append, length-map) refl

module _ (t : Settings) (s : State) (z : HasSizes t s) where
  pub objects_by_sizes : length (objects s) ≡ t.cores + t.blocks + t.channels + t.lines + t.cores + t.blocks + 1
  objects_by_sizes = omega (arith, objects_by_kind s, z.cores, z.blocks, z.channels, z.lines, z.mailboxes, z.consoles)

  pub objects_few : AreLimited t → length (objects s) ≤ 1024
  objects_few h = omega (arith, objects_by_sizes, h.cores.1, h.blocks.1, h.channels, h.lines)
