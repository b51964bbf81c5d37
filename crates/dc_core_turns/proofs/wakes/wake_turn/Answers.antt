-- A wake, by what stands in the hand.
use Rattle.std.proofs.Common.{[], refl, sym, ap, ◌∙◌}
use Rattle.dc_base.specs.declared.actions.Action.TheVariants as action
use Rattle.dc_base.specs.Outcomes.{has, if_here}
use Rattle.dc_base.specs.Turns.{look_block}
use Rattle.dc_base.specs.Wakes.{wake_in}
use Rattle.dc_hands.specs.declared.hands.CoreHand.{CoreHand}
use Rattle.dc_hands.specs.Machines.{Passing}
use Rattle.dc_core_turns.proofs.BesideHands.{beside_nothing}
use Rattle.dc_core_turns.proofs.VainTurns.{not_stopped, takes_stop}
use Rattle.dc_core_turns.proofs.WakeAround.{wake_elsewhere, wake_none, wake_shape}
use Rattle.dc_core_turns.proofs.wakes.wake_turn.Goals as goal

pub returns-in-Some-clause-turn : goal.returns-in-Some-clause-turn
returns-in-Some-clause-turn g c =
    let k : Passing g.row.D.Denot = c.args.pass.now in
    let h : CoreHand g.row.D.Denot = c.args.hand.now in
    let t = if_here h.core.share c.args.b.0 (look_block c.args.b.0 (wake_in h.number.0 h.core c.args.b.0 c.args.d.0)) in
    (takes_stop c.args.stage.now k h [] (beside_nothing c.args.stage.now k h c.requires.hand) (action.Wake c.args.b c.args.d) t c.in-Some.stop refl (sym c.stop_of.ensures ∙ c.in-Some.is)).turn

pub returns-then-not-contains-clause-turn : goal.returns-then-not-contains-clause-turn
returns-then-not-contains-clause-turn g c =
    let k : Passing g.row.D.Denot = c.args.pass.now in
    let h : CoreHand g.row.D.Denot = c.args.hand.now in
    (wake_elsewhere c.args.stage.now c.requires.opened k h [] (beside_nothing c.args.stage.now k h c.requires.hand) c.args.b c.args.d (not_stopped h.core (sym c.stop_of.ensures ∙ c.in_default.is))
    (sym (ap (λ l. has l c.args.b.0) c.share.ensures) ∙ sym c.contains.ensures.value ∙ c.if-not-contains.true)).turn

pub wait_in_row-requires-after_bounds : goal.wait_in_row-requires-after_bounds
wait_in_row-requires-after_bounds g c κs within =
    let k : Passing g.row.D.Denot = c.args.pass.now in
    let h : CoreHand g.row.D.Denot = c.args.hand.now in
    wake_shape c.args.stage.now c.requires.opened k h [] (beside_nothing c.args.stage.now k h c.requires.hand) c.args.b c.args.d (not_stopped h.core (sym c.stop_of.ensures ∙ c.in_default.is))
    (sym (ap (λ l. has l c.args.b.0) c.share.ensures) ∙ sym c.contains.ensures.value ∙ c.if-not-contains.false)

pub returns-in-None-clause-turn : goal.returns-in-None-clause-turn
returns-in-None-clause-turn g c =
    let k : Passing g.row.D.Denot = c.args.pass.now in
    let h : CoreHand g.row.D.Denot = c.args.hand.now in
    let here = sym (ap (λ l. has l c.args.b.0) c.share.ensures) ∙ sym c.contains.ensures.value ∙ c.if-not-contains.false in
    let x = c.requires.hand.blocks c.args.b.0 here in
    (wake_none c.args.stage.now c.requires.opened k h [] (beside_nothing c.args.stage.now k h c.requires.hand) c.args.b c.args.d (not_stopped h.core (sym c.stop_of.ensures ∙ c.in_default.is))
    here x.0 x.1 (sym (c.wait_in_row.ensures x.0 x.1) ∙ c.in-None.is)).turn
