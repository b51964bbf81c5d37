use Rattle.std.proofs.Common.{◌≡◌, ◌+◌, drop}
use Rattle.dc_hands.specs.Rows.{place_in}
use Rattle.dc_hands.proofs.rows.RowNumbersPlaces.place.Given as goal

abbrev pub invariant-loop-i : goal.invariant-loop-i
invariant-loop-i l = place_in l.self.numbers.items l.b.0 ≡ l.i + place_in (drop l.i l.self.numbers.items) l.b.0
