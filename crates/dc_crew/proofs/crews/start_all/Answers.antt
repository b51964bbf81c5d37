use Rattle.std.proofs.Common.{length, sym, refl, ap, ◌∙◌, subst, arith}
use Rattle.dc_logs.specs.Rests.{AllOf}
use Rattle.dc_crew.specs.Seats.{IsCoreSeat}
use Rattle.dc_crew.proofs.Homes.{HaveStarted, removed, none_started, one_started, all_started}
use Rattle.dc_crew.proofs.crews.start_all.Goals as goal

pub loop-seats-init : goal.loop-seats-init
loop-seats-init g c = record {
  rest = c.requires.seats;
  pairs = none_started c.args.stage.now c.args.seats.items c.args.started.items c.requires.room.0;
  room = let n = ap length c.requires.room.0 in let m = c.requires.room.1 in omega (arith, n, m);
  seats_room = refl;
  started_room = refl;
}

pub loop-seats-preserved : goal.loop-seats-preserved
loop-seats-preserved g c =
    let inv = c.loop-seats.invariant in
    let r = c.remove-seat.ensures in
    let st = c.args.stage.now in
    let s = c.remove-seat.result in
    let others = c.remove-seat.new.self.items in
    let is = removed c.loop-seats.seats.items s others (omega (arith, r.len)) r.value r.by_index.2 in
    record {
      rest = (subst (λ xs. AllOf (IsCoreSeat st) xs) is inv.rest).1;
      pairs = subst (λ xs. HaveStarted st c.args.seats.items others xs) (sym c.push_reserved.ensures.items)
          (one_started st c.args.seats.items s others c.loop-seats.started.items c.start.result c.start.ensures
          (subst (λ xs. HaveStarted st c.args.seats.items xs c.loop-seats.started.items) is inv.pairs));
      room = let a = inv.room in let b = r.len in let d = c.push_reserved.ensures.len in let e = c.push_reserved.ensures.capacity in omega (arith, a, b, d, e);
      seats_room = r.capacity ∙ inv.seats_room;
      started_room = c.push_reserved.ensures.capacity ∙ inv.started_room;
    }

pub returns-clause-started : goal.returns-clause-started
returns-clause-started g c =
    all_started c.args.stage.now c.args.seats.items c.loop-seats.seats.items c.loop-seats.started.items (omega (arith, c.len.ensures, c.loop-seats-test.false))
    c.loop-seats.invariant.pairs
