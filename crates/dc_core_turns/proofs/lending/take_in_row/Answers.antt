-- An intake into a block in its place.
use Rattle.std.proofs.Common.{◌≡◌, subst}
use Rattle.dc_base.specs.States.{Block}
use Rattle.dc_bodies.specs.TakenIn.{IsIntake}
use Rattle.dc_hands.specs.Rows.{Rowed}
use Rattle.dc_core_turns.proofs.RowChanges.{put_at, read_at}
use Rattle.dc_core_turns.proofs.lending.take_in_row.Goals as goal

pub returns : goal.returns
returns g c x there =
    let r : Rowed = record { numbers = c.row.inside.numbers.numbers.items; blocks = c.row.inside.blocks.items } in
    let y : Block = c.take_in_held.new.block in
    let p = c.args.p in
    let same : c.index_mut.result.now ≡ x = read_at r c.args.row.now c.row.view_is p.block.0 c.place-place.result c.place-place.ensures x there c.index_mut.result.now c.index_mut.ensures.value in (
      y,
      put_at r c.args.row.now c.row.view_is p.block.0 c.place-place.result c.place-place.ensures x there c.row.invariant.0 y,
      subst (λ (z : Block). IsIntake c.args.c.0 c.args.l.0 p c.args.line.now c.take_in_held.new.line z y c.take_in_held.result) same c.take_in_held.ensures,
    )
