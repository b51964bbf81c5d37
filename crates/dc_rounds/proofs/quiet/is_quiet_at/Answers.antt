use Rattle.std.proofs.Common.{length, refl, inl, sym, ap, ◌∙◌, subst}
use Rattle.dc_base.specs.declared.actions.Action.TheVariants as action
use Rattle.dc_base.specs.Changes.{a_core}
use Rattle.dc_rounds.specs.Working.{TriedShare}
use Rattle.dc_hands.proofs.HeldHands.{hand_within}
use Rattle.dc_rounds.proofs.QuietSteps.{still_through, vain_still, lines_still, share_still, tried_out}
use Rattle.dc_rounds.proofs.quiet.is_quiet_at.Goals as goal

pub is_in_vain-requires-clause-action : goal.is_in_vain-requires-clause-action
is_in_vain-requires-clause-action g c κs within =
    (hand_within c.args.stage.now c.requires.opened c.args.pass.now c.args.hand.now c.requires.work.hand (a_core c.args.hand.now.number.0) (inl refl), tt)

pub is_in_vain-requires-2-clause-action : goal.is_in_vain-requires-2-clause-action
is_in_vain-requires-2-clause-action g c κs within =
    let h = c.is_share_in_vain.new.hand in
    (hand_within c.args.stage.now c.requires.opened c.is_share_in_vain.new.pass h c.is_share_in_vain.ensures.work.hand (a_core h.number.0) (inl refl), tt)

pub returns-clause-quiet : goal.returns-clause-quiet
returns-clause-quiet g c = λ yes.
    let st = c.args.stage.now in
    let k = c.is_in_vain.new.pass in
    let i = c.is_in_vain.new.hand in
    let l = c.are_intakes_in_vain.new.pass in
    let j = c.are_intakes_in_vain.new.hand in
    let m = c.is_share_in_vain.new.pass in
    let o = c.is_share_in_vain.new.hand in
    let p = c.is_in_vain-2.new.pass in
    let h = c.is_in_vain-2.new.hand in
    let order = c.is_in_vain.ensures.vain c.if-not-is_in_vain.false in
    let lines = c.are_intakes_in_vain.ensures.still c.if-not-are_intakes_in_vain.false in
    let share = c.is_share_in_vain.ensures.still c.if-not-is_share_in_vain.false in
    let step = c.is_in_vain-2.ensures.vain yes in
    let last = step.still in
    let behind = still_through l m p j o h share last in
    record {
      length_is = ap length last.seen ∙ (ap length share.seen ∙ (ap length lines.seen ∙ (ap length order.still.seen ∙ (sym c.look_at_work.ensures.count ∙ c.if-look_at_work-n.false))));
      tried = tried_out st c.requires.opened p h step.vain
          (vain_still st k p i h (still_through k l p i j h lines behind) action.Order order.vain)
          (lines_still st l p j h behind st.scene.settings.lines (c.are_intakes_in_vain.ensures.tried c.if-not-are_intakes_in_vain.false))
          (subst (λ n. TriedShare st p h n) (ap (λ x. length x.core.share) (sym last.hand))
          (share_still st m p o h last (length o.core.share) (c.is_share_in_vain.ensures.tried c.if-not-is_share_in_vain.false)))
          (c.hands_show_their_blocks.ensures.wakes st p h c.is_in_vain-2.ensures.work.hand);
    }
