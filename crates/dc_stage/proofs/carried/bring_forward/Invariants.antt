use Rattle.std.proofs.Common.{◌≡◌, ℕ, true}
use Rattle.dc_stage.specs.Numbers.{has, IsApart}
use Rattle.dc_stage.specs.Carried.{keys}
use Rattle.dc_stage.proofs.Numbers.{place_of}
use Rattle.dc_stage.proofs.carried.bring_forward.Given as goal

abbrev pub invariant-loop-seat : goal.invariant-loop-seat
invariant-loop-seat g l = record {
  same : (l.seat.table_id ≡ l.initial.seat.table_id) × (l.seat.id ≡ l.initial.seat.id) × (l.seat.me.0 ≡ l.initial.seat.me.0);
  keys : keys l.seat.me.1 ≡ l.held.items;
  kept : (j : ℕ) → has j l.held.items ≡ has j l.initial.held.items;
  held : has l.i l.held.items ≡ true;
  apart : IsApart l.held.items;
}

abbrev pub decreases-loop-seat : goal.decreases-loop-seat
decreases-loop-seat g l = place_of l.i l.held.items
