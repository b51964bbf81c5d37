use Rattle.std.proofs.Common.{◌≡◌, drop}
use Rattle.dc_base.specs.Boot.{home_from}
use Rattle.dc_boot.proofs.start.home_of.Given as goal

-- no block so far has its home there
abbrev pub invariant-loop-at : goal.invariant-loop-at
invariant-loop-at l = home_from l.c.0 l.at (drop l.at l.blocks) ≡ home_from l.c.0 0 l.blocks
