use Rattle.std.proofs.Common.{◌≡◌, Some, None, ap, arith}
use Rattle.std.specs.Prelude.{slice_get}
use Rattle.dc_base.specs.Changes.{a_block, block}
use Rattle.dc_base.specs.Outcomes.{share_blocks}
use Rattle.dc_hands.specs.declared.hands.CoreHand.{CoreHand}
use Rattle.dc_hands.specs.Rows.{Rowed, in_row}
use Rattle.dc_hands.proofs.Gathered.{quiet_taken, missed_block}
use Rattle.dc_hands.proofs.RowHolds.{few_taken, next_apart, row_core, row_free, row_grown, row_missed, shared_once, shared_within}
use Rattle.dc_hands.proofs.ShareRows.{at_in_share, placed_at}
use Rattle.dc_hands.proofs.gathers.take_next.Goals as goal

pub take_block-requires-clause-within : goal.take_block-requires-clause-within
take_block-requires-clause-within g c κs within =
    let h : CoreHand g.row.D.Denot = c.args.hand.now in
    let here : slice_get (share_blocks h.core.share) c.args.i ≡ Some c.in-Some.b.0 =
    placed_at c.share.result.now h.core.share c.args.i c.in-Some.b.0 c.share.ensures c.in-Some.ensures in
    shared_within c.args.stage.now c.args.pass.now h c.requires.first.row c.len.ensures.numbered c.requires.opened c.args.i c.in-Some.b.0 here

pub take_block-requires-clause-free : goal.take_block-requires-clause-free
take_block-requires-clause-free g c κs within =
    let h : CoreHand g.row.D.Denot = c.args.hand.now in
    let here : slice_get (share_blocks h.core.share) c.args.i ≡ Some c.in-Some.b.0 =
    placed_at c.share.result.now h.core.share c.args.i c.in-Some.b.0 c.share.ensures c.in-Some.ensures in
    let apart : in_row h.row c.in-Some.b.0 ≡ None = next_apart c.args.stage.now c.args.pass.now h c.args.i c.in-Some.b.0 c.requires.first c.len.ensures.numbered here
    (shared_once c.args.stage.now c.args.pass.now h c.requires.first.row c.len.ensures.numbered c.requires.opened c.in-Some.b.0) in
    row_free c.args.stage.now c.args.pass.now h c.requires.first.row c.len.ensures.numbered c.in-Some.b.0 (shared_within c.args.stage.now c.args.pass.now h c.requires.first.row c.len.ensures.numbered c.requires.opened c.args.i c.in-Some.b.0 here) apart

pub returns-in-Err-clause-busy : goal.returns-in-Err-clause-busy
returns-in-Err-clause-busy g c =
    let h : CoreHand g.row.D.Denot = c.args.hand.now in
    let here : slice_get (share_blocks h.core.share) c.args.i ≡ Some c.in-Some.b.0 =
    placed_at c.share.result.now h.core.share c.args.i c.in-Some.b.0 c.share.ensures c.in-Some.ensures in (
      row_missed c.args.stage.now c.args.pass.now c.take_block.new.pass h (a_block c.in-Some.b.0) c.in-Err.busy c.requires.first.row c.in-Err.ensures.busy,
      missed_block c.args.stage.now c.args.pass.now c.take_block.new.pass h.number.0 c.in-Some.b.0 c.in-Err.busy c.in-Err.ensures.busy (
        h.core,
        row_core c.args.stage.now c.args.pass.now h c.requires.first.row c.len.ensures.numbered c.requires.opened,
        at_in_share h.core.share c.args.i c.in-Some.b.0 here,
      ),
    )

pub add-requires-clause-room : goal.add-requires-clause-room
add-requires-clause-room g c κs within =
    let few = few_taken c.args.stage.now c.args.pass.now c.args.hand.now c.args.i c.requires.first in
    let more = c.requires.more in
    let most = c.requires.few in
    omega (arith, few, more, most)

pub add-requires-clause-apart : goal.add-requires-clause-apart
add-requires-clause-apart g c κs within =
    let h : CoreHand g.row.D.Denot = c.args.hand.now in
    let here : slice_get (share_blocks h.core.share) c.args.i ≡ Some c.in-Some.b.0 =
    placed_at c.share.result.now h.core.share c.args.i c.in-Some.b.0 c.share.ensures c.in-Some.ensures in
    next_apart c.args.stage.now c.args.pass.now h c.args.i c.in-Some.b.0 c.requires.first c.len.ensures.numbered here
    (shared_once c.args.stage.now c.args.pass.now h c.requires.first.row c.len.ensures.numbered c.requires.opened c.in-Some.b.0)

pub returns-clause-got : goal.returns-clause-got
returns-clause-got g c =
    let h : CoreHand g.row.D.Denot = c.args.hand.now in
    let here : slice_get (share_blocks h.core.share) c.args.i ≡ Some c.in-Some.b.0 =
    placed_at c.share.result.now h.core.share c.args.i c.in-Some.b.0 c.share.ensures c.in-Some.ensures in
    let apart : in_row h.row c.in-Some.b.0 ≡ None = next_apart c.args.stage.now c.args.pass.now h c.args.i c.in-Some.b.0 c.requires.first c.len.ensures.numbered here
    (shared_once c.args.stage.now c.args.pass.now h c.requires.first.row c.len.ensures.numbered c.requires.opened c.in-Some.b.0) in (
      row_grown c.args.stage.now c.args.pass.now c.take_block.new.pass h (record h { row = c.add.new.self }) c.args.i c.in-Some.b c.in-Ok.block c.requires.first
          c.len.ensures.numbered here c.in-Ok.ensures.got (shared_within c.args.stage.now c.args.pass.now h c.requires.first.row c.len.ensures.numbered c.requires.opened c.args.i c.in-Some.b.0 here) apart
          (ap (λ (r : Rowed). record h { row = r }) c.add.ensures.last),
      quiet_taken c.args.stage.now c.args.pass.now c.take_block.new.pass (a_block c.in-Some.b.0) (block c.in-Ok.block) c.in-Ok.ensures.got,
    )
