-- A slice of a block in its place.
use Rattle.std.proofs.Common.{◌≡◌, subst}
use Rattle.dc_base.specs.States.{Core, Block}
use Rattle.dc_calls.specs.Outsides.{Fits, outside_seen}
use Rattle.dc_kernel.specs.Begins.{halfway_in, need_in}
use Rattle.dc_objects.specs.Blocks.{running_of}
use Rattle.dc_bodies.specs.Sliced.{IsSlice}
use Rattle.dc_hands.specs.Rows.{Rowed}
use Rattle.dc_core_turns.proofs.RowChanges.{put_at, read_at}
use Rattle.dc_core_turns.proofs.lending.slice_in_row.Goals as goal

pub returns-clause-slice : goal.returns-clause-slice
returns-clause-slice g c x there =
    let r : Rowed = record { numbers = c.row.inside.numbers.numbers.items; blocks = c.row.inside.blocks.items } in
    let k : Core = c.args.core.now in
    let y : Block = c.slice_block.new.block in
    let same : c.index_mut.result.now ≡ x = read_at r c.args.row.now c.row.view_is c.args.b.0 c.place-place.result c.place-place.ensures x there c.index_mut.result.now c.index_mut.ensures.value in (
      y,
      put_at r c.args.row.now c.row.view_is c.args.b.0 c.place-place.result c.place-place.ensures x there c.row.invariant.0 y,
      subst (λ (z : Block). IsSlice c.args.c.0 c.args.b.0 k c.slice_block.new.core z y (need_in (halfway_in k.settings.quantum k.clock (running_of z))) (outside_seen c.args.outside.now) (outside_seen c.slice_block.new.outside) c.slice_block.result)
          same c.slice_block.ensures.slice,
    )

pub returns-clause-kind : goal.returns-clause-kind
returns-clause-kind g c x there =
    let r : Rowed = record { numbers = c.row.inside.numbers.numbers.items; blocks = c.row.inside.blocks.items } in
    let k : Core = c.args.core.now in
    let same : c.index_mut.result.now ≡ x = read_at r c.args.row.now c.row.view_is c.args.b.0 c.place-place.result c.place-place.ensures x there c.index_mut.result.now c.index_mut.ensures.value in
    subst (λ (z : Block). Fits (need_in (halfway_in k.settings.quantum k.clock (running_of z))) c.slice_block.new.outside) same c.slice_block.ensures.kind
