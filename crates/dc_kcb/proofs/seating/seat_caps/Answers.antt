use Rattle.std.proofs.Common.{◌≡◌, ◌-◌, suc, drop, ap, ◌∙◌, arith}
use Rattle.std.proofs.lemmas.Option.{slice_get-get_or}
use Rattle.dc_base.specs.Parts.{with_seats}
use Rattle.dc_kcb.proofs.Seatings.{seated_more}
use Rattle.dc_kcb.proofs.seating.seat_caps.Goals as goal

pub loop-k-preserved : goal.loop-k-preserved
loop-k-preserved c =
    let next : c.loop-k.k ≡ suc (c.loop-k.k - 1) = omega arith in
    let before = c.loop-k.invariant ∙ ap (λ n. record c.args.table.now { set = with_seats c.args.d.0 (drop n c.args.caps.now) c.args.table.now.set }) next in
    seated_more c.args.table.now c.args.d.0 c.args.caps.now c.requires.caps c.requires.free (c.loop-k.k - 1) _ c.loop-k.table c.seat.new.self c.seat.result (slice_get-get_or c.args.caps.now (c.loop-k.k - 1) _ (omega arith)) before
    c.seat.ensures.answer c.seat.ensures.ok
