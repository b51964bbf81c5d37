-- The core idles.
use Rattle.std.proofs.Common.{[], ◌∷◌, refl}
use Rattle.dc_base.specs.declared.actions.Action.TheVariants as action
use Rattle.dc_base.specs.Changes.{core_becomes}
use Rattle.dc_hands.specs.declared.hands.CoreHand.{CoreHand}
use Rattle.dc_hands.specs.Machines.{Passing}
use Rattle.dc_core_turns.proofs.IdleMade.{hand_budget, idle_made, idle_only, idle_same, idle_stands}
use Rattle.dc_core_turns.proofs.MadeTurns.{made_actor, made_held, made_lawful, takes_made}
use Rattle.dc_core_turns.proofs.steps.idle.Goals as goal

pub idle_held-entry-requires : goal.idle_held-entry-requires
idle_held-entry-requires g c = hand_budget c.args.stage.now c.requires.opened c.args.pass.now c.args.hand.now [] c.requires.hand c.requires.acts

pub commit-ticket-requires-clause-actor : goal.commit-ticket-requires-clause-actor
commit-ticket-requires-clause-actor g c κs within =
    let k : Passing g.row.D.Denot = c.args.pass.now in
    let h : CoreHand g.row.D.Denot = c.args.hand.now in
    let made = idle_made c.args.stage.now c.requires.opened k h c.requires.hand c.requires.acts c.args.clock c.requires.next.0 c.requires.next.1 c.idle_held-entry.new.core c.idle_held-entry.result c.idle_held-entry.ensures in
    made_actor c.args.stage.now c.requires.opened k h [] c.requires.hand action.Step (core_becomes h.number.0 c.idle_held-entry.new.core ∷ []) c.idle_held-entry.result made

pub commit-ticket-requires-clause-lawful : goal.commit-ticket-requires-clause-lawful
commit-ticket-requires-clause-lawful g c κs within =
    let k : Passing g.row.D.Denot = c.args.pass.now in
    let h : CoreHand g.row.D.Denot = c.args.hand.now in
    let made = idle_made c.args.stage.now c.requires.opened k h c.requires.hand c.requires.acts c.args.clock c.requires.next.0 c.requires.next.1 c.idle_held-entry.new.core c.idle_held-entry.result c.idle_held-entry.ensures in
    made_lawful c.args.stage.now c.requires.opened k h [] c.requires.hand action.Step (core_becomes h.number.0 c.idle_held-entry.new.core ∷ []) c.idle_held-entry.result made

pub commit-ticket-requires-clause-held : goal.commit-ticket-requires-clause-held
commit-ticket-requires-clause-held g c κs within =
    let k : Passing g.row.D.Denot = c.args.pass.now in
    let h : CoreHand g.row.D.Denot = c.args.hand.now in
    let made = idle_made c.args.stage.now c.requires.opened k h c.requires.hand c.requires.acts c.args.clock c.requires.next.0 c.requires.next.1 c.idle_held-entry.new.core c.idle_held-entry.result c.idle_held-entry.ensures in
    made_held c.args.stage.now c.requires.opened k h [] c.requires.hand action.Step (core_becomes h.number.0 c.idle_held-entry.new.core ∷ []) c.idle_held-entry.result made
    (idle_only c.args.stage.now c.requires.opened k h c.requires.hand c.requires.acts c.args.clock c.requires.next.0 c.requires.next.1)

pub returns : goal.returns
returns g c =
    let k : Passing g.row.D.Denot = c.args.pass.now in
    let h : CoreHand g.row.D.Denot = c.args.hand.now in
    let made = idle_made c.args.stage.now c.requires.opened k h c.requires.hand c.requires.acts c.args.clock c.requires.next.0 c.requires.next.1 c.idle_held-entry.new.core c.idle_held-entry.result c.idle_held-entry.ensures in
    let new : CoreHand g.row.D.Denot = record { number = h.number; core = c.idle_held-entry.new.core; row = h.row } in
    takes_made c.args.stage.now c.requires.opened k h [] c.requires.hand action.Step (core_becomes h.number.0 c.idle_held-entry.new.core ∷ []) c.idle_held-entry.result made c.commit-ticket.new.pass c.commit-ticket.result c.commit-ticket.ensures new refl
    (idle_same c.args.stage.now c.requires.opened k h c.requires.hand c.requires.acts c.args.clock c.requires.next.0 c.requires.next.1 c.idle_held-entry.new.core c.idle_held-entry.result c.idle_held-entry.ensures)
    (idle_stands c.args.stage.now c.requires.opened k h c.requires.hand c.requires.acts c.args.clock c.requires.next.0 c.requires.next.1 c.idle_held-entry.new.core c.idle_held-entry.result c.idle_held-entry.ensures new refl refl refl)
