use Rattle.std.proofs.Common.{length, sym, refl, ap, ◌∙◌, subst, arith}
use Rattle.dc_crew.proofs.Homes.{IsPartly, removed, none_home, one_home, all_home}
use Rattle.dc_crew.proofs.crews.finish_all.Goals as goal

pub loop-seats-init : goal.loop-seats-init
loop-seats-init g c = record {
  pairs = λ st before p. none_home st before c.args.seats.items c.args.started.items c.requires.room.0 p;
  room = let n = ap length c.requires.room.0 in let m = c.requires.room.1 in omega (arith, n, m);
  started_room = refl;
}

pub loop-seats-preserved : goal.loop-seats-preserved
loop-seats-preserved g c =
    let inv = c.loop-seats.invariant in
    let r = c.remove.ensures in
    let xs = c.remove.new.self.items in
    let home = c.loop-seats.seats.items in
    let is = removed c.loop-seats.started.items c.remove.result xs (omega (arith, r.len)) r.value r.by_index.2 in
    record {
      pairs = λ st before p. subst (λ h. IsPartly st before h xs) (sym c.push_reserved.ensures.items)
          (one_home st before home c.remove.result xs c.finish.result (c.finish.ensures st)
          (subst (λ z. IsPartly st before home z) is (inv.pairs st before p)));
      room = let a = inv.room in let b = r.len in let d = c.push_reserved.ensures.len in let e = c.push_reserved.ensures.capacity in omega (arith, a, b, d, e);
      started_room = r.capacity ∙ inv.started_room;
    }

pub returns-clause-seats : goal.returns-clause-seats
returns-clause-seats g c st before p =
    all_home st before c.loop-seats.seats.items c.loop-seats.started.items (omega (arith, c.len.ensures, c.loop-seats-test.false))
    (c.loop-seats.invariant.pairs st before p)
