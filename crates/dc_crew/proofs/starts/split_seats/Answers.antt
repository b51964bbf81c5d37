use Rattle.std.proofs.Common.{◌≡◌, ◌+◌, length, sym, ap, ◌∙◌, subst, arith}
use Rattle.dc_stage.specs.Passes.{having_made}
use Rattle.dc_logs.specs.Rests.{AllOf}
use Rattle.dc_crew.specs.Crews.{IsNew, AreNumbered}
use Rattle.dc_crew.specs.Machines.{Passing}
use Rattle.dc_crew.specs.Seats.{IsSeat}
use Rattle.dc_crew.proofs.Laters.{all_snoc}
use Rattle.dc_crew.proofs.Splitting.{numbers_snoc}
use Rattle.dc_crew.proofs.starts.split_seats.Goals as goal

pub loop-preserved : goal.loop-preserved
loop-preserved c =
    let inv = c.loop.invariant in
    let st = c.args.stage.now in
    let k = c.args.first.now in
    let s = c.in_ok-seat.seat in
    let made = c.in_ok-seat.ensures.seat in
    let put = c.push_reserved.ensures in
    let number : s.pass.actor ≡ k.made + length c.loop.seats.items =
    let a = made.2 in let b = ap (λ (z : Passing). z.made) inv.same in let d = inv.count in omega (arith, a, b, d) in
    record {
      of = subst (λ xs. AllOf (IsSeat st) xs) (sym put.items) (all_snoc (IsSeat st) c.loop.seats.items s inv.of made.0);
      new = subst (λ xs. AllOf (IsNew c.args.room) xs) (sym put.items) (all_snoc (IsNew c.args.room) c.loop.seats.items s inv.new made.1);
      numbers = subst (λ xs. AreNumbered k.made xs) (sym put.items) (numbers_snoc k.made c.loop.seats.items s number inv.numbers);
      count = let n = put.len in let m = inv.count in omega (arith, n, m);
      same = c.in_ok-seat.ensures.first ∙ (ap having_made inv.same ∙ ap (λ m. record k { made = m }) (omega arith));
      room = let n = put.capacity in let m = inv.room in omega (arith, n, m);
    }
