use Rattle.std.proofs.Common.{◌≡◌, ◌+◌, drop}
use Rattle.dc_rests.specs.Resting.{entries_in_logs}
use Rattle.dc_rests.proofs.seat_logs.have_together.Given as goal

abbrev pub invariant-loop-seat : goal.invariant-loop-seat
invariant-loop-seat l = entries_in_logs (drop l.seat-index l.seats) + l.n ≡ entries_in_logs l.seats + l.left
