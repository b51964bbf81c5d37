use Rattle.std.proofs.Common.{inl, refl}
use Rattle.dc_base.specs.Changes.{a_core}
use Rattle.dc_hands.proofs.HeldHands.{hand_within}
use Rattle.dc_rounds.proofs.QuietSteps.{plain_within}
use Rattle.dc_rounds.proofs.rounds.act_in.Goals as goal

pub act-requires-clause-action : goal.act-requires-clause-action
act-requires-clause-action g c κs within =
    plain_within c.args.stage.now.scene.settings c.args.hand.now.number c.args.action.now c.requires.action
    (hand_within c.args.stage.now c.requires.opened c.args.pass.now c.args.hand.now c.requires.work.hand (a_core c.args.hand.now.number.0) (inl refl))
