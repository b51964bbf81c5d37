use Rattle.std.proofs.Common.{◌≡◌, ◌++◌, drop}
use Rattle.dc_base.specs.States.{cores_from}
use Rattle.dc_objects.proofs.starts.cores_of.Given as goal

-- the cores so far, and those of the rest
abbrev pub invariant-loop-at : goal.invariant-loop-at
invariant-loop-at l = l.cores.items ++ cores_from l.settings l.at l.image.blocks (drop l.at l.image.cores) ≡ cores_from l.settings 0 l.image.blocks l.image.cores
