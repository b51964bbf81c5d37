-- A wake of a dispatcher of a block in its place.
use Rattle.std.proofs.Common.{◌≡◌, subst}
use Rattle.dc_base.specs.States.{Block}
use Rattle.dc_bodies.specs.Woken.{IsWake}
use Rattle.dc_hands.specs.Rows.{Rowed}
use Rattle.dc_core_turns.proofs.RowChanges.{put_at, read_at}
use Rattle.dc_core_turns.proofs.lending.wake_in_row.Goals as goal

pub returns : goal.returns
returns g c x there =
    let r : Rowed = record { numbers = c.row.inside.numbers.numbers.items; blocks = c.row.inside.blocks.items } in
    let y : Block = c.wake_held.new.block in
    let same : c.index_mut.result.now ≡ x = read_at r c.args.row.now c.row.view_is c.args.b.0 c.place-place.result c.place-place.ensures x there c.index_mut.result.now c.index_mut.ensures.value in (
      y,
      put_at r c.args.row.now c.row.view_is c.args.b.0 c.place-place.result c.place-place.ensures x there c.row.invariant.0 y,
      subst (λ (z : Block). IsWake c.args.c.0 c.args.b.0 c.args.d.0 c.args.core.now c.wake_held.new.core z y c.wake_held.result) same c.wake_held.ensures,
    )
