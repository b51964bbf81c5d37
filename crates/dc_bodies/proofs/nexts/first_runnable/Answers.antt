-- The first block that can run.
use Rattle.std.proofs.Common.{◌≡◌, ℕ, List, Option, Some, refl, sym, ap, ◌∙◌, subst, slice_get, length, arith}
use Rattle.std.specs.Option.{option_map}
use Rattle.dc_base.specs.Outcomes.{share_blocks}
use Rattle.dc_base.specs.States.{Block, Core, Member}
use Rattle.dc_base.specs.Steps.{can_run}
use Rattle.dc_base.specs.Turns.{Looked}
use Rattle.dc_objects.specs.Blocks.{IsTimed}
use Rattle.dc_bodies.proofs.Firsts.{first_here, first_later, none_first, hand_at, hand_has, listed_at, place_is, place_past, seen_some, seen_none}
use Rattle.dc_bodies.proofs.nexts.first_runnable.Goals.{in-Some+in-Some-block+else-runnable, in-Some+in_default-block, in_default}
use Rattle.dc_bodies.proofs.nexts.first_runnable.Goals as goal

pub loop-i-init : goal.loop-i-init
loop-i-init g c = refl

pub runnable-requires-after_bounds : goal.runnable-requires-after_bounds
runnable-requires-after_bounds g c κs within =
    let k : Core = c.args.core.now in
    let seen : ℕ → Option Block = g.B.Blocks.seen c.args.blocks.now in
    let at : slice_get (share_blocks k.share) c.loop-i.i ≡ Some c.in-Some.b.0 = place_is c.share-share.result.now k.share c.loop-i.i c.at.result c.in-Some.b c.share-share.ensures c.in-Some.is c.at.ensures in
    let there : seen c.in-Some.b.0 ≡ Some c.in-Some-block.block.now = seen_some c.block.result c.in-Some-block.block (seen c.in-Some.b.0) c.in-Some-block.is c.block.ensures in
    let h = hand_at c.requires.hand.0 k seen c.requires.hand.1 c.loop-i.i c.in-Some.b.0 at c.in-Some-block.block.now there in
    subst (λ n. IsTimed n c.in-Some-block.block.now) (sym c.clock.ensures) h.timed

pub returns-then-runnable : goal.returns-then-runnable
returns-then-runnable g c =
    let k : Core = c.args.core.now in
    let seen : ℕ → Option Block = g.B.Blocks.seen c.args.blocks.now in
    let at : slice_get (share_blocks k.share) c.loop-i.i ≡ Some c.in-Some.b.0 = place_is c.share-share.result.now k.share c.loop-i.i c.at.result c.in-Some.b c.share-share.ensures c.in-Some.is c.at.ensures in
    let there : seen c.in-Some.b.0 ≡ Some c.in-Some-block.block.now = seen_some c.block.result c.in-Some-block.block (seen c.in-Some.b.0) c.in-Some-block.is c.block.ensures in
    let runs = ap (λ n. can_run n c.in-Some-block.block.now) (sym c.clock.ensures) ∙ (sym c.runnable.ensures ∙ c.if-runnable.true) in
    ap (option_map (λ (l : Looked). l.number)) (sym (first_here seen k.clock k.share c.loop-i.i c.in-Some.b.0 c.in-Some-block.block.now at there runs) ∙ c.loop-i.invariant)

pub loop-i-preserved : goal.loop-i-preserved
loop-i-preserved g c =
    let k : Core = c.args.core.now in
    let seen : ℕ → Option Block = g.B.Blocks.seen c.args.blocks.now in
    elim c.match-at.branch [
      | in-Some+in-Some-block+else-runnable w ↦
          let at : slice_get (share_blocks k.share) c.loop-i.i ≡ Some w.in-Some.b.0 = place_is c.share-share.result.now k.share c.loop-i.i c.at.result w.in-Some.b c.share-share.ensures w.in-Some.is c.at.ensures in
          let there : seen w.in-Some.b.0 ≡ Some w.in-Some-block.block.now = seen_some w.block.result w.in-Some-block.block (seen w.in-Some.b.0) w.in-Some-block.is w.block.ensures in
          let rests = ap (λ n. can_run n w.in-Some-block.block.now) (sym w.clock.ensures) ∙ (sym w.runnable.ensures ∙ w.if-runnable.false) in
          first_later seen k.clock k.share c.loop-i.i w.in-Some.b.0 w.in-Some-block.block.now at there rests ∙ c.loop-i.invariant
      | in-Some+in_default-block w ↦
          let at : slice_get (share_blocks k.share) c.loop-i.i ≡ Some w.in-Some.b.0 = place_is c.share-share.result.now k.share c.loop-i.i c.at.result w.in-Some.b c.share-share.ensures w.in-Some.is c.at.ensures in
          absurd (hand_has c.requires.hand.0 k seen c.requires.hand.1 w.in-Some.b.0 (listed_at k.share c.loop-i.i w.in-Some.b.0 at) (seen_none w.block.result (seen w.in-Some.b.0) w.in_default-block.is w.block.ensures))
      | in_default w ↦
          let long = ap (λ (ms : List Member). length ms) c.share-share.ensures in
          absurd (place_past c.share-share.result.now k.share c.loop-i.i c.at.result c.share-share.ensures (omega (arith, long)) w.in_default.is c.at.ensures)
    ]

pub returns : goal.returns
returns g c =
    let k : Core = c.args.core.now in
    let seen : ℕ → Option Block = g.B.Blocks.seen c.args.blocks.now in
    let long = ap (λ (ms : List Member). length ms) c.share-share.ensures in
    ap (option_map (λ (l : Looked). l.number)) (sym (none_first seen k.clock k.share c.loop-i.i (omega (arith, long))) ∙ c.loop-i.invariant)
