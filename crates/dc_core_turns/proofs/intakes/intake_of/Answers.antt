-- A core that may not take a raise in.
use Rattle.std.proofs.Common.{[], ◌∷◌}
use Rattle.dc_base.specs.Changes.{a_line}
use Rattle.dc_hands.specs.declared.hands.CoreHand.{CoreHand}
use Rattle.dc_hands.specs.Machines.{Passing}
use Rattle.dc_core_turns.proofs.IntakeAround.{intake_refused}
use Rattle.dc_core_turns.proofs.intakes.intake_of.Goals as goal

pub returns-in-Err-clause-turn : goal.returns-in-Err-clause-turn
returns-in-Err-clause-turn g c =
    let k : Passing g.row.D.Denot = c.args.pass.now in
    let h : CoreHand g.row.D.Denot = c.args.hand.now in
    intake_refused c.args.stage.now k h (a_line c.args.l.0 ∷ []) c.requires.hand c.args.l c.requires.version c.args.line.now c.requires.line c.in-Err.why c.in-Err.ensures.refused
