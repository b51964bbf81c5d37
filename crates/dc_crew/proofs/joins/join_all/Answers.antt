use Rattle.std.proofs.Common.{sym, ◌∙◌, subst, arith}
use Rattle.dc_logs.specs.Rests.{AllOf}
use Rattle.dc_crew.specs.Seats.{IsSeat}
use Rattle.dc_crew.proofs.Laters.{all_init}
use Rattle.dc_crew.proofs.Joining.{HavePartlyJoined, next_joined}
use Rattle.dc_scene.specs.Machines.{machine}
use Rattle.dc_crew.proofs.joins.join_all.Goals as goal

pub loop-other-preserved : goal.loop-other-preserved
loop-other-preserved c =
    let inv = c.loop-other.invariant in
    let st = c.args.stage.now in
    let s = c.in-Some.other in
    let before = c.pop.new.self.items in
    let is = c.in-Some.ensures.items in
    let put = c.push_reserved.ensures in
    record {
      rest = (all_init (IsSeat st) before s (subst (λ xs. AllOf (IsSeat st) xs) is inv.rest)).0;
      joined = subst (λ gs. HavePartlyJoined c.args.first.now c.join.new.first c.args.others.items before gs) (sym put.items)
          (next_joined (machine st.scene.settings st.scene.start) st c.args.first.now c.loop-other.first c.join.new.first c.args.others.items
          c.loop-other.others.items before s c.loop-other.logs.items c.into_entries.result is c.join.ensures
          (all_init (IsSeat st) before s (subst (λ xs. AllOf (IsSeat st) xs) is inv.rest)).1 c.into_entries.ensures inv.joined);
      room = let a = inv.room in let b = c.in-Some.ensures.len in let d = put.len in let e = put.capacity in omega (arith, a, b, d, e);
      capacity = put.capacity ∙ inv.capacity;
    }
