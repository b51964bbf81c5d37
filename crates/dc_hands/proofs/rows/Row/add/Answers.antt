use Rattle.std.proofs.Common.{◌≡◌, ◌∙◌, None, ap, arith}
use Rattle.dc_hands.specs.Rows.{Rowed, in_row}
use Rattle.dc_hands.proofs.Rowing.{longer_row, longer_here, longer_others}
use Rattle.dc_hands.proofs.rows.Row.add.Goals as goal

pub invariant_of-self : goal.invariant_of-self
invariant_of-self g c =
    let r : Rowed = record { numbers = c.self.inside.numbers.numbers.items; blocks = c.self.inside.blocks.items } in
    let apart : in_row r c.args.b.0 ≡ None = ap (λ (q : Rowed). in_row q c.args.b.0) c.self.view_is ∙ c.requires.apart in
    let room = c.self.invariant.1 in
    let same = c.push_reserved.ensures.capacity in
    rw (c.push.ensures.items, c.push_reserved.ensures.items) (longer_row r c.self.invariant.0 c.args.b c.args.block apart, omega (arith, room, same))

pub returns-clause-here : goal.returns-clause-here
returns-clause-here g c =
    let r : Rowed = record { numbers = c.self.inside.numbers.numbers.items; blocks = c.self.inside.blocks.items } in
    let apart : in_row r c.args.b.0 ≡ None = ap (λ (q : Rowed). in_row q c.args.b.0) c.self.view_is ∙ c.requires.apart in
    rw (c.push.ensures.items, c.push_reserved.ensures.items) (longer_here r c.self.invariant.0 c.args.b c.args.block apart)

pub returns-clause-others : goal.returns-clause-others
returns-clause-others g c = λ n ne.
    let r : Rowed = record { numbers = c.self.inside.numbers.numbers.items; blocks = c.self.inside.blocks.items } in
    let apart : in_row r c.args.b.0 ≡ None = ap (λ (q : Rowed). in_row q c.args.b.0) c.self.view_is ∙ c.requires.apart in
    rw (c.push.ensures.items, c.push_reserved.ensures.items) (longer_others r c.self.invariant.0 c.args.b c.args.block apart n ne)
    ∙ ap (λ (q : Rowed). in_row q n) c.self.view_is
