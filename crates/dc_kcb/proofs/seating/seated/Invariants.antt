use Rattle.std.proofs.Common.{◌≡◌, drop, length}
use Rattle.dc_base.specs.Parts.{seats_from}
use Rattle.dc_kcb.proofs.seating.seated.Given as goal

abbrev pub invariant-loop-d : goal.invariant-loop-d
invariant-loop-d l = l.table ≡ record { set = seats_from l.d (drop l.d l.disps); disps = length l.disps }
