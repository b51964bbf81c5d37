-- The first timer of the share that is due.
use Rattle.std.proofs.Common.{◌≡◌, ◌^◌, ℕ, List, Option, Some, refl, sym, ap, ◌∙◌, subst, slice_get, length, arith}
use Rattle.std.specs.Prelude.{IfSome, ℤ, pos, ◌<ℤ◌}
use Rattle.std.specs.Option.{option_map}
use Rattle.dc_base.specs.Outcomes.{share_blocks}
use Rattle.dc_base.specs.States.{Block, Core, Member}
use Rattle.dc_base.specs.Words.{above_zero}
use Rattle.dc_bodies.specs.Nexts.{earlier}
use Rattle.dc_bodies.proofs.Dues.{due_before, due_more, due_all, near_of}
use Rattle.dc_bodies.proofs.Firsts.{hand_at, hand_has, listed_at, place_is, place_past, seen_some, seen_none}
use Rattle.dc_bodies.proofs.nexts.next_due.Goals.{in-Some+in-Some-block, in-Some+in_default-block, in_default}
use Rattle.dc_bodies.proofs.nexts.next_due.Goals as goal

pub loop-i-init : goal.loop-i-init
loop-i-init g c = refl

pub earliest-requires-after_bounds : goal.earliest-requires-after_bounds
earliest-requires-after_bounds g c κs within =
    let k : Core = c.args.core.now in
    let seen : ℕ → Option Block = g.B.Blocks.seen c.args.blocks.now in
    let at : slice_get (share_blocks k.share) c.loop-i.i ≡ Some c.in-Some.b.0 = place_is c.share-share.result.now k.share c.loop-i.i c.at.result c.in-Some.b c.share-share.ensures c.in-Some.is c.at.ensures in
    let there : seen c.in-Some.b.0 ≡ Some c.in-Some-block.block.now = seen_some c.block.result c.in-Some-block.block (seen c.in-Some.b.0) c.in-Some-block.is c.block.ensures in
    (hand_at c.requires.hand.0 k seen c.requires.hand.1 c.loop-i.i c.in-Some.b.0 at c.in-Some-block.block.now there).timed.held

pub sooner-least-requires : goal.sooner-least-requires
sooner-least-requires g c =
    let k : Core = c.args.core.now in
    let seen : ℕ → Option Block = g.B.Blocks.seen c.args.blocks.now in
    let at : slice_get (share_blocks k.share) c.loop-i.i ≡ Some c.in-Some.b.0 = place_is c.share-share.result.now k.share c.loop-i.i c.at.result c.in-Some.b c.share-share.ensures c.in-Some.is c.at.ensures in
    let there : seen c.in-Some.b.0 ≡ Some c.in-Some-block.block.now = seen_some c.block.result c.in-Some-block.block (seen c.in-Some.b.0) c.in-Some-block.is c.block.ensures in
    let h = hand_at c.requires.hand.0 k seen c.requires.hand.1 c.loop-i.i c.in-Some.b.0 at c.in-Some-block.block.now there in
    subst (λ (o : Option ℤ). IfSome o (λ (z : ℤ). z <ℤ pos (2 ^ 64))) (sym c.earliest.ensures) (near_of c.requires.hand.0 k.clock c.in-Some-block.block.now h)

pub loop-i-preserved : goal.loop-i-preserved
loop-i-preserved g c =
    let k : Core = c.args.core.now in
    let seen : ℕ → Option Block = g.B.Blocks.seen c.args.blocks.now in
    elim c.match-at.branch [
      | in-Some+in-Some-block w ↦
          let at : slice_get (share_blocks k.share) c.loop-i.i ≡ Some w.in-Some.b.0 = place_is c.share-share.result.now k.share c.loop-i.i c.at.result w.in-Some.b c.share-share.ensures w.in-Some.is c.at.ensures in
          let there : seen w.in-Some.b.0 ≡ Some w.in-Some-block.block.now = seen_some w.block.result w.in-Some-block.block (seen w.in-Some.b.0) w.in-Some-block.is w.block.ensures in
          let h = hand_at c.requires.hand.0 k seen c.requires.hand.1 c.loop-i.i w.in-Some.b.0 at w.in-Some-block.block.now there in
          let one : w.sooner-least.result ≡ earlier (due_before seen c.loop-i.i k.share) (option_map above_zero w.earliest.result) = w.sooner-least.ensures ∙ ap (λ o. earlier o (option_map above_zero w.earliest.result)) c.loop-i.invariant in
          w.least-is ∙ (one ∙ (ap (λ o. earlier (due_before seen c.loop-i.i k.share) (option_map above_zero o)) w.earliest.ensures ∙ sym (due_more seen k.share c.loop-i.i w.in-Some.b.0 w.in-Some-block.block.now at there h.timed.held)))
      | in-Some+in_default-block w ↦
          let at : slice_get (share_blocks k.share) c.loop-i.i ≡ Some w.in-Some.b.0 = place_is c.share-share.result.now k.share c.loop-i.i c.at.result w.in-Some.b c.share-share.ensures w.in-Some.is c.at.ensures in
          absurd (hand_has c.requires.hand.0 k seen c.requires.hand.1 w.in-Some.b.0 (listed_at k.share c.loop-i.i w.in-Some.b.0 at) (seen_none w.block.result (seen w.in-Some.b.0) w.in_default-block.is w.block.ensures))
      | in_default w ↦
          let long = ap (λ (ms : List Member). length ms) c.share-share.ensures in
          absurd (place_past c.share-share.result.now k.share c.loop-i.i c.at.result c.share-share.ensures (omega (arith, long)) w.in_default.is c.at.ensures)
    ]

pub returns : goal.returns
returns g c =
    let k : Core = c.args.core.now in
    let long = ap (λ (ms : List Member). length ms) c.share-share.ensures in
    c.loop-i.invariant ∙ due_all (g.B.Blocks.seen c.args.blocks.now) k.share c.loop-i.i (omega (arith, long))
