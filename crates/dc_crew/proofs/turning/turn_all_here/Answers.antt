use Rattle.std.proofs.Common.{◌+◌, ◌<◌, length, sym, ◌∙◌, subst, refl, arith}
use Rattle.dc_crew.proofs.Homes.{removed}
use Rattle.dc_crew.proofs.TurnedCores.{AreTurned, none_turned, next_of_core, one_turned, all_turned}
use Rattle.dc_crew.proofs.turning.turn_all_here.Goals as goal

pub loop-init : goal.loop-init
loop-init g c = record { turned = none_turned c.args.stage.now c.args.started.now.items c.requires.started; many = refl; room = refl }

pub turn_started-requires-clause-core : goal.turn_started-requires-clause-core
turn_started-requires-clause-core g c κs within =
    let st = c.args.stage.now in
    let xs = c.args.started.now.items in
    let r = c.remove-core.ensures in
    let x = c.remove-core.result in
    let others = c.remove-core.new.self.items in
    let less : c.loop.counter < length xs = omega (arith, c.loop-test.true, c.len-end.ensures) in
    let is = removed c.loop.started.items x others (omega (arith, r.len)) r.value r.by_index.2 in
    next_of_core st xs c.loop.counter x others less (subst (λ ys. AreTurned st xs ys c.loop.counter) is c.loop.invariant.turned)

pub loop-preserved : goal.loop-preserved
loop-preserved g c =
    let st = c.args.stage.now in
    let xs = c.args.started.now.items in
    let inv = c.loop.invariant in
    let r = c.remove-core.ensures in
    let put = c.push_reserved.ensures in
    let x = c.remove-core.result in
    let others = c.remove-core.new.self.items in
    let less : c.loop.counter < length xs = omega (arith, c.loop-test.true, c.len-end.ensures) in
    let is = removed c.loop.started.items x others (omega (arith, r.len)) r.value r.by_index.2 in
    record {
      turned = subst (λ ys. AreTurned st xs ys (c.loop.counter + 1)) (sym put.items)
          (one_turned st xs c.loop.counter x others less c.turn_started.result c.turn_started.ensures
          (subst (λ ys. AreTurned st xs ys c.loop.counter) is inv.turned));
      many = let a = inv.many in let b = r.len in let d = put.len in omega (arith, a, b, d);
      room = put.capacity ∙ (r.capacity ∙ inv.room);
    }

pub returns-clause-started : goal.returns-clause-started
returns-clause-started g c seats =
    all_turned c.args.stage.now seats c.args.started.now.items c.loop.started.items c.loop.counter (omega (arith, c.loop-test.false, c.len-end.ensures))
    c.loop.invariant.turned
