use Rattle.std.proofs.Common.{◌≡◌, ◌<◌, ℕ, List, Option, Some, None, refl, sym, ap, ◌∙◌, subst, length, arith}
use Rattle.std.specs.Prelude.{slice_get}
use Rattle.dc_base.specs.Orders.{block_at_rest}
use Rattle.dc_base.specs.Outcomes.{share_blocks}
use Rattle.dc_base.specs.States.{Block, Core}
use Rattle.dc_objects.specs.Blocks.{IsTimed}
use Rattle.dc_bodies.specs.Handing.{AreApart, IsChangedAt, seen_at}
use Rattle.dc_bodies.proofs.ShareChanges.{none_made, all_made, block_at, none_at, none_left, block_timed, turn_made}
use Rattle.dc_bodies.proofs.handing.release_all.Goals.{in-Some, in_default}
use Rattle.dc_bodies.proofs.handing.release_all.Goals as goal

pub loop-i-init : goal.loop-i-init
loop-i-init g c =
    let k : Core = c.args.core.now in
    let seen : List Block → ℕ → Option Block = seen_at (g.P.Places.at c.args.places.now) in
    record { left = none_made (block_at_rest k.clock) k.clock k.share (seen c.args.blocks.now.items) (record { once = c.requires.once }) c.requires.blocks; count = refl; room = refl }

pub release_one-requires-clause-block : goal.release_one-requires-clause-block
release_one-requires-clause-block g c κs within =
    let k : Core = c.args.core.now in
    let seen : List Block → ℕ → Option Block = seen_at (g.P.Places.at c.args.places.now) in
    let here : slice_get (share_blocks k.share) c.loop-i.i ≡ Some c.in-Some.b.0 = block_at c.share-share.result.now k.share c.loop-i.i (Some c.in-Some.b.0) c.share-share.ensures c.in-Some.ensures in
    let t = block_timed (block_at_rest k.clock) k.clock k.share c.loop-i.i c.in-Some.b.0 (seen c.args.blocks.now.items) (seen c.loop-i.blocks.items) here c.loop-i.invariant.left in
    (t.0, t.1, subst (λ n. IsTimed n t.0) (sym c.clock.ensures) t.2)

pub release_one-requires-clause-apart : goal.release_one-requires-clause-apart
release_one-requires-clause-apart g c κs within = subst (AreApart (g.P.Places.at c.args.places.now)) (sym c.loop-i.invariant.count) c.requires.apart

pub loop-i-preserved : goal.loop-i-preserved
loop-i-preserved g c =
    let k : Core = c.args.core.now in
    let seen : List Block → ℕ → Option Block = seen_at (g.P.Places.at c.args.places.now) in
    elim c.match-at.branch [
      | in-Some w ↦ (
          let here : slice_get (share_blocks k.share) c.loop-i.i ≡ Some w.in-Some.b.0 = block_at c.share-share.result.now k.share c.loop-i.i (Some w.in-Some.b.0) c.share-share.ensures w.in-Some.ensures in
          record {
            left = turn_made (block_at_rest k.clock) k.clock k.share c.loop-i.i w.in-Some.b.0 (seen c.args.blocks.now.items) (seen c.loop-i.blocks.items) here c.loop-i.invariant.left (seen c.match-at.blocks.items)
                (rw w.blocks-is ((subst (λ n. IsChangedAt (block_at_rest n) w.in-Some.b.0 (seen c.loop-i.blocks.items) (seen w.release_one.new.blocks.items)) w.clock.ensures w.release_one.ensures.block)));
            count = rw w.blocks-is (w.release_one.ensures.count ∙ c.loop-i.invariant.count);
            room = rw w.blocks-is (w.release_one.ensures.room ∙ c.loop-i.invariant.room);
          })
      | in_default w ↦ (
          let below : c.loop-i.i < length k.share = subst (λ n. c.loop-i.i < n) (c.len-i-end.ensures.value ∙ ap length c.share-share.ensures) c.loop-i-test.true in
          absurd (none_at k.share c.loop-i.i below (block_at c.share-share.result.now k.share c.loop-i.i None c.share-share.ensures w.in_default.ensures)))
    ]

pub returns-clause-blocks : goal.returns-clause-blocks
returns-clause-blocks g c =
    let k : Core = c.args.core.now in
    let seen : List Block → ℕ → Option Block = seen_at (g.P.Places.at c.args.places.now) in
    let long = c.len-i-end.ensures.value ∙ ap length c.share-share.ensures in
    all_made (block_at_rest k.clock) k.clock k.share _ (seen c.args.blocks.now.items) (seen c.loop-i.blocks.items) (none_left k.share c.loop-i.i (omega (arith, long))) c.loop-i.invariant.left
