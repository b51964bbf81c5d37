use Rattle.std.proofs.Common.{◌≡◌, ◌<◌, ℕ, List, Option, Some, None, refl, sym, ap, ◌∙◌, subst, length, arith}
use Rattle.std.specs.Prelude.{slice_get}
use Rattle.dc_base.specs.Orders.{block_under}
use Rattle.dc_base.specs.Outcomes.{share_blocks}
use Rattle.dc_base.specs.States.{Block, Core}
use Rattle.dc_objects.specs.Blocks.{IsTimed}
use Rattle.dc_bodies.specs.Handing.{AreApart, seen_at}
use Rattle.dc_bodies.proofs.ShareChanges.{none_made, all_made, block_at, none_at, none_left, block_timed, turn_made}
use Rattle.dc_bodies.proofs.handing.replace_all.Goals.{in-Some, in_default}
use Rattle.dc_bodies.proofs.handing.replace_all.Goals as goal

pub loop-place-init : goal.loop-place-init
loop-place-init g c =
    let k : Core = c.args.core.now in
    let seen : List Block → ℕ → Option Block = seen_at (g.P.Places.at c.args.places.now) in
    record { left = none_made (block_under c.args.v) k.clock k.share (seen c.args.blocks.now.items) (record { once = c.requires.once }) c.requires.blocks; count = refl; room = refl }

pub replace_one-requires-clause-block : goal.replace_one-requires-clause-block
replace_one-requires-clause-block g c κs within =
    let k : Core = c.args.core.now in
    let seen : List Block → ℕ → Option Block = seen_at (g.P.Places.at c.args.places.now) in
    let here : slice_get (share_blocks k.share) c.loop-place.place ≡ Some c.in-Some.b.0 = block_at c.share-share.result.now k.share c.loop-place.place (Some c.in-Some.b.0) c.share-share.ensures c.in-Some.ensures in
    let t = block_timed (block_under c.args.v) k.clock k.share c.loop-place.place c.in-Some.b.0 (seen c.args.blocks.now.items) (seen c.loop-place.blocks.items) here c.loop-place.invariant.left in
    (t.0, t.1, subst (λ n. IsTimed n t.0) (sym c.clock.ensures) t.2)

pub replace_one-requires-clause-apart : goal.replace_one-requires-clause-apart
replace_one-requires-clause-apart g c κs within = subst (AreApart (g.P.Places.at c.args.places.now)) (sym c.loop-place.invariant.count) c.requires.apart

pub loop-place-preserved : goal.loop-place-preserved
loop-place-preserved g c =
    let k : Core = c.args.core.now in
    let seen : List Block → ℕ → Option Block = seen_at (g.P.Places.at c.args.places.now) in
    elim c.match-at.branch [
      | in-Some w ↦ (
          let here : slice_get (share_blocks k.share) c.loop-place.place ≡ Some w.in-Some.b.0 = block_at c.share-share.result.now k.share c.loop-place.place (Some w.in-Some.b.0) c.share-share.ensures w.in-Some.ensures in
          record {
            left = turn_made (block_under c.args.v) k.clock k.share c.loop-place.place w.in-Some.b.0 (seen c.args.blocks.now.items) (seen c.loop-place.blocks.items) here c.loop-place.invariant.left (seen c.match-at.blocks.items)
                (rw w.blocks-is (w.replace_one.ensures.block));
            count = rw w.blocks-is (w.replace_one.ensures.count ∙ c.loop-place.invariant.count);
            room = rw w.blocks-is (w.replace_one.ensures.room ∙ c.loop-place.invariant.room);
          })
      | in_default w ↦ (
          let below : c.loop-place.place < length k.share = subst (λ n. c.loop-place.place < n) (c.len-place-end.ensures.value ∙ ap length c.share-share.ensures) c.loop-place-test.true in
          absurd (none_at k.share c.loop-place.place below (block_at c.share-share.result.now k.share c.loop-place.place None c.share-share.ensures w.in_default.ensures)))
    ]

pub returns-clause-blocks : goal.returns-clause-blocks
returns-clause-blocks g c =
    let k : Core = c.args.core.now in
    let seen : List Block → ℕ → Option Block = seen_at (g.P.Places.at c.args.places.now) in
    let long = c.len-place-end.ensures.value ∙ ap length c.share-share.ensures in
    all_made (block_under c.args.v) k.clock k.share _ (seen c.args.blocks.now.items) (seen c.loop-place.blocks.items) (none_left k.share c.loop-place.place (omega (arith, long))) c.loop-place.invariant.left
