use Rattle.std.proofs.Common.{◌≡◌, ◌++◌, drop, length}
use Rattle.dc_base.specs.Boot.{boot_cores}
use Rattle.dc_boot.proofs.start.cores_of.Given as goal

-- the cores so far, and those of the rest
abbrev pub invariant-loop-at : goal.invariant-loop-at
invariant-loop-at l = record {
  told : l.started.items ++ boot_cores l.at l.blocks (drop l.at l.cores) ≡ boot_cores 0 l.blocks l.cores;
  long : length l.started.items ≡ l.at;
}
