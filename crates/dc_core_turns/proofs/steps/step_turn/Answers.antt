-- A step, by what stands in the hand.
use Rattle.std.proofs.Common.{[], refl, sym, ◌∙◌, subst}
use Rattle.std.specs.Prelude.{find}
use Rattle.dc_base.specs.declared.actions.Action.TheVariants as action
use Rattle.dc_base.specs.declared.entries.Reason.TheVariants as reason
use Rattle.dc_base.specs.Outcomes.{share_blocks}
use Rattle.dc_base.specs.Steps.{is_runnable, step_on}
use Rattle.dc_base.specs.Turns.{look_blocks}
use Rattle.dc_bodies.specs.Nexts.{IsNext}
use Rattle.dc_hands.specs.declared.hands.CoreHand.{CoreHand}
use Rattle.dc_hands.specs.Machines.{Passing, state_after}
use Rattle.dc_core_turns.proofs.BesideHands.{beside_nothing, hand_sound}
use Rattle.dc_core_turns.proofs.HandTurns.{hand_ready, seen, step_nothing}
use Rattle.dc_core_turns.proofs.VainTurns.{not_stopped, takes_none, takes_stop}
use Rattle.dc_core_turns.proofs.steps.step_turn.Goals as goal

pub returns-in-Some-clause-turn : goal.returns-in-Some-clause-turn
returns-in-Some-clause-turn g c =
    let k : Passing g.row.D.Denot = c.args.pass.now in
    let h : CoreHand g.row.D.Denot = c.args.hand.now in
    let t = look_blocks (share_blocks h.core.share) (λ share. step_on h.number.0 h.core share (find (is_runnable h.core.clock) share)) in
    (takes_stop c.args.stage.now k h [] (beside_nothing c.args.stage.now k h c.requires.hand) action.Step t c.in-Some.stop refl (sym c.stop_of.ensures ∙ c.in-Some.is)).turn

pub next_of-requires-clause-hand : goal.next_of-requires-clause-hand
next_of-requires-clause-hand g c κs within =
    let k : Passing g.row.D.Denot = c.args.pass.now in
    let h : CoreHand g.row.D.Denot = c.args.hand.now in
    let holds = beside_nothing c.args.stage.now k h c.requires.hand in
    (h.number.0, hand_ready h (state_after c.args.stage.now k.seen) holds.stands (hand_sound c.args.stage.now c.requires.opened k h [] holds))

pub returns-in-Nothing-clause-turn : goal.returns-in-Nothing-clause-turn
returns-in-Nothing-clause-turn g c =
    let k : Passing g.row.D.Denot = c.args.pass.now in
    let h : CoreHand g.row.D.Denot = c.args.hand.now in
    let holds = beside_nothing c.args.stage.now k h c.requires.hand in
    let next = subst (IsNext h.core (seen h)) c.in-Nothing.is c.next_of.ensures in
    (takes_none c.args.stage.now k h [] holds action.Step reason.Nothing
    (step_nothing h (state_after c.args.stage.now k.seen) holds.stands (not_stopped h.core (sym c.stop_of.ensures ∙ c.in_default.is)) next.0 next.1)).turn
