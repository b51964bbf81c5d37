use Rattle.std.proofs.Common.{◌<◌, length, arith}
use Rattle.dc_report.proofs.CountedLatches.{one_more, no_more}
use Rattle.dc_report.proofs.latches.latches_in.Goals.{then-is_latch_of, else-is_latch_of}
use Rattle.dc_report.proofs.latches.latches_in.Goals as goal

pub loop-s-preserved : goal.loop-s-preserved
loop-s-preserved g c =
    let signals = c.args.block.now.control.parts.signals in
    let within = c.loop-s-test.true in
    let end = c.signals-s-end.ensures in
    let inside : c.loop-s.s < length signals = omega (arith, within, end) in
    elim c.if-is_latch_of.branch [
      | then-is_latch_of w ↦ (
          let more = one_more c.args.l signals c.loop-s.s inside c.signal.result c.signal.ensures c.is_latch_of.result c.is_latch_of.ensures w.if-is_latch_of.true in
          let now = w.latches-is in
          let so_far = c.loop-s.invariant.counted in
          let most = c.loop-s.invariant.most in
          record { counted = omega (arith, more, now, so_far); most = omega (arith, now, most) })
      | else-is_latch_of w ↦ (
          let more = no_more c.args.l signals c.loop-s.s inside c.signal.result c.signal.ensures c.is_latch_of.result c.is_latch_of.ensures w.if-is_latch_of.false in
          let now = w.latches-is in
          let so_far = c.loop-s.invariant.counted in
          let most = c.loop-s.invariant.most in
          record { counted = omega (arith, more, now, so_far); most = omega (arith, now, most) })
    ]
