-- The line is taken before the intake, and put back after it.
use Rattle.dc_hands.specs.declared.hands.CoreHand.{CoreHand}
use Rattle.dc_hands.specs.Machines.{Passing}
use Rattle.dc_core_turns.proofs.IntakeAround.{line_back, line_beside, line_busy, line_free}
use Rattle.dc_core_turns.proofs.intakes.intake_on.Goals as goal

pub take_line-requires-clause-free : goal.take_line-requires-clause-free
take_line-requires-clause-free g c κs within =
    let k : Passing g.row.D.Denot = c.args.pass.now in
    let h : CoreHand g.row.D.Denot = c.args.hand.now in
    line_free c.args.stage.now c.requires.opened k h c.requires.hand c.args.l c.requires.line

pub returns-in-Err : goal.returns-in-Err
returns-in-Err g c =
    let k : Passing g.row.D.Denot = c.args.pass.now in
    let h : CoreHand g.row.D.Denot = c.args.hand.now in
    line_busy c.args.stage.now c.requires.opened k h c.requires.hand c.args.l c.requires.line c.requires.version c.take_line.new.pass c.in-Err.busy c.in-Err.ensures.busy

pub intake_of-turned-requires-clause-hand : goal.intake_of-turned-requires-clause-hand
intake_of-turned-requires-clause-hand g c κs within =
    let k : Passing g.row.D.Denot = c.args.pass.now in
    let h : CoreHand g.row.D.Denot = c.args.hand.now in
    line_beside c.args.stage.now c.requires.opened k h c.requires.hand c.args.l c.requires.line c.take_line.new.pass c.in-Ok.line c.in-Ok.ensures.got

pub returns : goal.returns
returns g c =
    let k : Passing g.row.D.Denot = c.args.pass.now in
    let h : CoreHand g.row.D.Denot = c.args.hand.now in
    line_back c.args.stage.now c.requires.opened k h c.requires.hand c.args.l c.requires.line c.take_line.new.pass c.in-Ok.line c.in-Ok.ensures.got c.intake_of-turned.new.pass c.put_line.new.pass c.intake_of-turned.new.hand c.intake_of-turned.result
    c.intake_of-turned.ensures.turn c.put_line.ensures
