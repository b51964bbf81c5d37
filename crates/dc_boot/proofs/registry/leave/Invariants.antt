use Rattle.std.proofs.Common.{◌≡◌, ◌++◌, take, drop, map}
use Rattle.dc_base.specs.Boot.{none_on}
use Rattle.dc_boot.proofs.registry.leave.Given as goal

-- the places so far are changed
abbrev pub invariant-loop-at : goal.invariant-loop-at
invariant-loop-at l = l.places ≡ map (none_on l.c.0) (take l.at l.fn.places) ++ drop l.at l.fn.places
