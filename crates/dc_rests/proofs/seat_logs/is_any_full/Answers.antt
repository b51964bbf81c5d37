use Rattle.std.proofs.Common.{inl}
use Rattle.dc_rests.proofs.SeatLogs.{full_at}
use Rattle.dc_rests.proofs.seat_logs.is_any_full.Goals as goal

pub returns-then-is_full-clause-full : goal.returns-then-is_full-clause-full
returns-then-is_full-clause-full c e =
    inl (full_at c.args.seats.now c.loop-seat.seat-index c.seat-item.result c.loop-seat-test.true c.seat-item.is (c.is_full.ensures.value.0 c.if-is_full.true))
