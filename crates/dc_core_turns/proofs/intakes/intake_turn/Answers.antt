-- An intake of a core that is off.
use Rattle.std.proofs.Common.{[], sym, ap, ◌∙◌}
use Rattle.std.specs.Prelude.{is_some}
use Rattle.dc_hands.specs.declared.hands.CoreHand.{CoreHand}
use Rattle.dc_hands.specs.Machines.{Passing}
use Rattle.dc_core_turns.proofs.BesideHands.{beside_nothing}
use Rattle.dc_core_turns.proofs.IntakeAround.{intake_off}
use Rattle.dc_core_turns.proofs.intakes.intake_turn.Goals as goal

pub returns-in-None-clause-turn : goal.returns-in-None-clause-turn
returns-in-None-clause-turn g c =
    let k : Passing g.row.D.Denot = c.args.pass.now in
    let h : CoreHand g.row.D.Denot = c.args.hand.now in
    (intake_off c.args.stage.now k h [] (beside_nothing c.args.stage.now k h c.requires.hand) c.args.l (ap (λ v. is_some v) (sym c.version.ensures ∙ c.in-None.is))).turn
