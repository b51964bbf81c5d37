use Rattle.std.proofs.Common.{◌≡◌, drop, length}
use Rattle.std.specs.Prelude.{vec_capacity}
use Rattle.dc_base.specs.Orders.{block_at_rest}
use Rattle.dc_bodies.specs.Handing.{seen_at}
use Rattle.dc_bodies.proofs.ShareChanges.{Leaves}
use Rattle.dc_bodies.proofs.handing.release_all.Given as goal

abbrev pub invariant-loop-i : goal.invariant-loop-i
invariant-loop-i g l = record {
  left : Leaves (block_at_rest l.core.clock) l.core.clock l.core.share (drop l.i l.core.share) (seen_at (g.P.Places.at l.places) l.initial.blocks.items) (seen_at (g.P.Places.at l.places) l.blocks.items);
  count : length l.blocks.items ≡ length l.initial.blocks.items;
  room : vec_capacity l.blocks ≡ vec_capacity l.initial.blocks;
}
