use Rattle.std.proofs.Common.{◌≡◌, drop, length}
use Rattle.std.specs.Prelude.{vec_capacity}
use Rattle.dc_base.specs.Orders.{block_under}
use Rattle.dc_bodies.specs.Handing.{seen_at}
use Rattle.dc_bodies.proofs.ShareChanges.{Leaves}
use Rattle.dc_bodies.proofs.handing.replace_all.Given as goal

abbrev pub invariant-loop-place : goal.invariant-loop-place
invariant-loop-place g l = record {
  left : Leaves (block_under l.v) l.core.clock l.core.share (drop l.place l.core.share) (seen_at (g.P.Places.at l.places) l.initial.blocks.items) (seen_at (g.P.Places.at l.places) l.blocks.items);
  count : length l.blocks.items ≡ length l.initial.blocks.items;
  room : vec_capacity l.blocks ≡ vec_capacity l.initial.blocks;
}
