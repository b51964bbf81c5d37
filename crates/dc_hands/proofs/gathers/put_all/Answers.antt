use Rattle.std.proofs.Common.{ap}
use Rattle.dc_base.specs.Changes.{a_core}
use Rattle.dc_hands.specs.declared.hands.CoreHand.{CoreHand}
use Rattle.dc_hands.specs.Machines.{number_of}
use Rattle.dc_hands.proofs.Gathered.{only_none, only_through, put_only}
use Rattle.dc_hands.proofs.RowHolds.{none_left}
use Rattle.dc_hands.proofs.gathers.put_all.Goals as goal

pub returns-clause-same : goal.returns-clause-same
returns-clause-same g c =
    let h : CoreHand g.row.D.Denot = c.put_blocks.new.hand in
    only_none c.args.pass.now c.put_core.new.pass
    (only_through c.args.pass.now c.put_blocks.new.pass c.put_core.new.pass c.put_blocks.ensures.same
    (put_only c.put_blocks.new.pass c.put_core.new.pass (number_of c.args.stage.now (a_core h.number.0)) c.put_core.ensures))
    (none_left c.args.stage.now c.put_blocks.new.pass c.put_core.new.pass h c.put_blocks.ensures.row
    (ap (λ (x : CoreHand g.row.D.Denot). x.row) c.put_blocks.ensures.hand) c.put_core.ensures)
