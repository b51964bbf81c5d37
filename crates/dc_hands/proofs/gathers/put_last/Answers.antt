use Rattle.std.proofs.Common.{refl}
use Rattle.dc_base.specs.Changes.{a_block}
use Rattle.dc_hands.specs.declared.hands.CoreHand.{CoreHand}
use Rattle.dc_hands.specs.Machines.{number_of}
use Rattle.dc_hands.specs.Rows.{with_last}
use Rattle.dc_hands.proofs.Gathered.{put_only}
use Rattle.dc_hands.proofs.RowHolds.{last_held, row_shrunk}
use Rattle.dc_hands.proofs.gathers.put_last.Goals as goal

pub put_block-requires-clause-held : goal.put_block-requires-clause-held
put_block-requires-clause-held g c κs within =
    let h : CoreHand g.row.D.Denot = c.args.hand.now in
    last_held c.args.stage.now c.args.pass.now (record h { row = with_last h.row c.args.b c.args.block }) c.requires.row h.row c.args.b c.args.block
    c.len.ensures.numbered refl c.requires.gone

pub returns-clause-same : goal.returns-clause-same
returns-clause-same g c = put_only c.args.pass.now c.put_block.new.pass (number_of c.args.stage.now (a_block c.args.b.0)) c.put_block.ensures

pub returns-clause-row : goal.returns-clause-row
returns-clause-row g c =
    let h : CoreHand g.row.D.Denot = c.args.hand.now in
    row_shrunk c.args.stage.now c.args.pass.now (record h { row = with_last h.row c.args.b c.args.block }) c.requires.row h.row c.args.b c.args.block
    c.len.ensures.numbered refl c.requires.gone c.put_block.new.pass h c.put_block.ensures refl
