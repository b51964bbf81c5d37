use Rattle.std.proofs.Common.{◌∙◌, ◌<◌, refl, sym, ap, length, arith, get_or}
use Rattle.std.proofs.lemmas.Option.{slice_get_read}
use Rattle.dc_hands.specs.Rows.{Rowed, in_row, place_in}
use Rattle.dc_hands.proofs.Rowing.{some_placed, shorter_row, shorter_gone, shorter_others}
use Rattle.dc_hands.proofs.rows.Row.remove.Goals as goal

abbrev before : (g : _) (c : goal.After-remove-2 g) → Rowed
before g c = record { numbers = c.self.inside.numbers.numbers.items; blocks = c.self.inside.blocks.items }

abbrev near : (g : _) (c : goal.After-remove-2 g) → place_in (before g c).numbers c.args.b.0 < length (before g c).numbers
near g c = some_placed (before g c) c.self.invariant.0 c.args.b.0 c.requires.0 (ap (λ (q : Rowed). in_row q c.args.b.0) c.self.view_is ∙ c.requires.1)

pub invariant_of-self : goal.invariant_of-self
invariant_of-self g c =
    let room = c.self.invariant.1 in
    let same = c.remove-2.ensures.capacity in
    rw (c.remove.ensures.items, c.remove-2.ensures.items, c.place-place.ensures)
    (shorter_row (before g c) c.self.invariant.0 c.args.b.0 (near g c), omega (arith, room, same))

pub returns-clause-block : goal.returns-clause-block
returns-clause-block g c =
    let r : Rowed = before g c in
    let there = near g c in
    let each = c.self.invariant.0.each in
    sym (ap (λ (q : Rowed). in_row q c.args.b.0) c.self.view_is)
    ∙ slice_get_read r.blocks _ (place_in r.numbers c.args.b.0) c.remove-2.result refl (omega (arith, there, each))
    (c.remove-2.ensures.value ∙ ap (λ n. get_or r.blocks n c.remove-2.result) c.place-place.ensures)

pub returns-clause-gone : goal.returns-clause-gone
returns-clause-gone g c =
    rw (c.remove.ensures.items, c.remove-2.ensures.items, c.place-place.ensures) (shorter_gone (before g c) c.self.invariant.0 c.args.b.0 (near g c))

pub returns-clause-others : goal.returns-clause-others
returns-clause-others g c = λ n ne.
    rw (c.remove.ensures.items, c.remove-2.ensures.items, c.place-place.ensures) (shorter_others (before g c) c.self.invariant.0 c.args.b.0 (near g c) n ne)
    ∙ ap (λ (q : Rowed). in_row q n) c.self.view_is
