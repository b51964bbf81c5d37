use Rattle.std.proofs.Common.{◌+◌, ◌<◌, ◌&&◌, length, sym, subst, refl, arith}
use Rattle.dc_crew.proofs.Homes.{removed}
use Rattle.dc_rests.proofs.TurnedCores.{AreTurned, none_turned, next_is_core, one_turned, all_turned, all_quiet}
use Rattle.dc_rests.proofs.turning.turn_cores.Goals as goal

pub loop-init : goal.loop-init
loop-init c = record { turned = none_turned c.args.stage.now c.args.n c.args.seats.items c.requires.cores; many = refl }

pub turn_core-seat-requires-clause-seat : goal.turn_core-seat-requires-clause-seat
turn_core-seat-requires-clause-seat c =
    let xs = c.args.seats.items in
    let inv = c.loop.invariant in
    let r = c.remove.ensures in
    let x = c.remove.result in
    let others = c.remove.new.self.items in
    let less : c.loop.counter < length xs = omega (arith, c.loop-test.true, c.len-end.ensures) in
    let is = removed c.loop.seats.items x others (omega (arith, r.len)) r.value r.by_index.2 in
    next_is_core c.args.stage.now c.args.n xs c.loop.counter x others less c.loop.are_quiet
    (subst (λ ys. AreTurned c.args.stage.now c.args.n xs ys c.loop.counter c.loop.are_quiet) is inv.turned)

pub loop-preserved : goal.loop-preserved
loop-preserved c =
    let st = c.args.stage.now in
    let n = c.args.n in
    let xs = c.args.seats.items in
    let inv = c.loop.invariant in
    let r = c.remove.ensures in
    let put = c.push_reserved.ensures in
    let x = c.remove.result in
    let others = c.remove.new.self.items in
    let i = c.loop.counter in
    let q = c.loop.are_quiet in
    let t = c.turn_core-seat.result in
    let less : i < length xs = omega (arith, c.loop-test.true, c.len-end.ensures) in
    let is = removed c.loop.seats.items x others (omega (arith, r.len)) r.value r.by_index.2 in
    record {
      turned = subst (λ ys. AreTurned st n xs ys (i + 1) (q && t.1)) (sym put.items)
          (one_turned st n xs i x others less q (subst (λ ys. AreTurned st n xs ys i q) is inv.turned) t.0 t.1 c.turn_core-seat.ensures.seat
          c.turn_core-seat.ensures.quiet);
      many = let a = inv.many in let b = r.len in let d = put.len in omega (arith, a, b, d);
    }

pub returns-clause-seats : goal.returns-clause-seats
returns-clause-seats c =
    all_turned c.args.stage.now c.args.n c.args.seats.items c.loop.seats.items c.loop.counter c.loop.are_quiet
    (omega (arith, c.loop-test.false, c.len-end.ensures)) c.loop.invariant.turned

pub returns-clause-quiet : goal.returns-clause-quiet
returns-clause-quiet c =
    all_quiet c.args.stage.now c.args.n c.args.seats.items c.loop.seats.items c.loop.counter c.loop.are_quiet
    (omega (arith, c.loop-test.false, c.len-end.ensures)) c.loop.invariant.turned
