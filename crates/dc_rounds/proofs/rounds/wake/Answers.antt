use Rattle.std.proofs.Common.{inl, refl, ap, arith}
use Rattle.dc_base.specs.Changes.{a_core}
use Rattle.dc_hands.proofs.HeldHands.{hand_within}
use Rattle.dc_rounds.proofs.rounds.wake.Goals as goal

pub waits-requires-after_bounds : goal.waits-requires-after_bounds
waits-requires-after_bounds g c κs within =
    c.hands_show_their_blocks.ensures.shapes c.args.stage.now c.args.pass.now c.args.hand.now c.requires.opened c.requires.work.hand c.args.b.0

pub act-requires-clause-action : goal.act-requires-clause-action
act-requires-clause-action g c κs within = (
  hand_within c.args.stage.now c.requires.opened c.args.pass.now c.args.hand.now c.requires.work.hand (a_core c.args.hand.now.number.0) (inl refl),
  (omega (arith, c.if-b-blocks.false, c.blocks-2.ensures, ap (λ m. m.settings.blocks) c.scene.ensures), c.requires.disp),
)
