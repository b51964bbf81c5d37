use Rattle.std.proofs.Common.{◌≡◌, drop}
use Rattle.dc_base.specs.Parts.{with_seats}
use Rattle.dc_kcb.proofs.seating.seat_caps.Given as goal

abbrev pub invariant-loop-k : goal.invariant-loop-k
invariant-loop-k l = l.table ≡ record l.initial.table { set = with_seats l.d.0 (drop l.k l.caps) l.initial.table.set }
