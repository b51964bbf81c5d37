use Rattle.std.proofs.Common.{arith}
use Rattle.dc_hands.specs.Rows.{Rowed, with_last, IsRow}
use Rattle.dc_hands.proofs.Rowing.{row_before}
use Rattle.dc_hands.proofs.rows.Row.pop.Goals as goal

pub invariant_of-self-2 : goal.invariant_of-self-2
invariant_of-self-2 g c =
    let left : Rowed = record { numbers = c.pop.new.self.items; blocks = c.pop-2.new.self.items } in
    let whole : IsRow (with_last left c.in-Some.b c.in-Some-pop.block) = rw (← c.in-Some.ensures.items, ← c.in-Some-pop.ensures.items) c.self.invariant.0 in
    let room = c.self.invariant.1 in
    let same = c.in-Some-pop.ensures.capacity in
    ((row_before left.numbers left.blocks c.in-Some.b c.in-Some-pop.block whole).0, omega (arith, room, same))

pub returns-clause-gone : goal.returns-clause-gone
returns-clause-gone g c =
    let left : Rowed = record { numbers = c.pop.new.self.items; blocks = c.pop-2.new.self.items } in
    let whole : IsRow (with_last left c.in-Some.b c.in-Some-pop.block) = rw (← c.in-Some.ensures.items, ← c.in-Some-pop.ensures.items) c.self.invariant.0 in
    (row_before left.numbers left.blocks c.in-Some.b c.in-Some-pop.block whole).1
