use Rattle.std.proofs.Common.{inl, refl}
use Rattle.dc_base.specs.Changes.{a_core}
use Rattle.dc_hands.proofs.HeldHands.{hand_within}
use Rattle.dc_rounds.proofs.quiet.is_wake_in_vain.Goals as goal

pub is_in_vain-requires-clause-action : goal.is_in_vain-requires-clause-action
is_in_vain-requires-clause-action g c κs within =
    (hand_within c.args.stage.now c.requires.opened c.args.pass.now c.args.hand.now c.requires.work.hand (a_core c.args.hand.now.number.0) (inl refl), (c.requires.block, c.requires.disp))
