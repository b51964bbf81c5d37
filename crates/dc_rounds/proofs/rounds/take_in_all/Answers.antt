use Rattle.std.proofs.Common.{◌<◌, inl, refl, ap, ◌∙◌, subst}
use Rattle.dc_base.specs.Changes.{a_core}
use Rattle.dc_hands.proofs.HeldHands.{hand_within}
use Rattle.dc_rounds.proofs.rounds.take_in_all.Goals as goal

pub act-requires-clause-action : goal.act-requires-clause-action
act-requires-clause-action g c κs within = (
  hand_within c.args.stage.now c.requires.opened c.loop-l.pass c.loop-l.hand c.loop-l.invariant.work.hand (a_core c.loop-l.hand.number.0) (inl refl),
  subst (λ n. c.loop-l.l < n) (c.lines-l-end.ensures ∙ ap (λ m. m.settings.lines) c.scene.ensures) c.loop-l-test.true,
)
