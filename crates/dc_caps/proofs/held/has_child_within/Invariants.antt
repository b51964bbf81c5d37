use Rattle.std.proofs.Common.{◌≡◌, ◌<◌, false, ℕ}
use Rattle.dc_mdb.specs.Forests.{IsForest}
use Rattle.dc_caps.specs.Seats.{child_within}
use Rattle.dc_caps.proofs.held.has_child_within.Given as goal

abbrev pub invariant-loop-s : goal.invariant-loop-s
invariant-loop-s l = record {
  none : (k : ℕ) → k < l.s → child_within l.caps l.forest l.slot l.first l.words k ≡ false;
  forest : 0 < l.s → IsForest l.forest;
}
