-- A pending raise comes to its signal.
use Rattle.std.proofs.Common.{[], ◌∷◌, refl}
use Rattle.dc_base.specs.declared.actions.Action.TheVariants as action
use Rattle.dc_base.specs.Changes.{a_line, block_becomes, line_becomes, wire}
use Rattle.dc_hands.specs.declared.hands.CoreHand.{CoreHand}
use Rattle.dc_hands.specs.Machines.{Passing}
use Rattle.dc_core_turns.proofs.IntakeMade.{line_after, intake_made, intake_only, intake_stands, to_block}
use Rattle.dc_core_turns.proofs.MadeTurns.{made_actor, made_has, made_held, made_lawful, takes_made}
use Rattle.dc_core_turns.proofs.intakes.take_in.Goals as goal

pub take_in_row-entry-requires-clause-block : goal.take_in_row-entry-requires-clause-block
take_in_row-entry-requires-clause-block g c κs within =
    let k : Passing g.row.D.Denot = c.args.pass.now in
    let h : CoreHand g.row.D.Denot = c.args.hand.now in
    to_block c.args.stage.now c.requires.opened k h c.args.l c.requires.hand c.args.line.now c.requires.line c.args.p c.requires.pending

pub commit-ticket-requires-clause-actor : goal.commit-ticket-requires-clause-actor
commit-ticket-requires-clause-actor g c κs within =
    let k : Passing g.row.D.Denot = c.args.pass.now in
    let h : CoreHand g.row.D.Denot = c.args.hand.now in
    let x = to_block c.args.stage.now c.requires.opened k h c.args.l c.requires.hand c.args.line.now c.requires.line c.args.p c.requires.pending in
    let y = c.take_in_row-entry.ensures x.0 x.1 in
    let made = intake_made c.args.stage.now c.requires.opened k h c.args.l c.requires.hand c.args.line.now c.requires.line c.args.p c.requires.pending c.requires.version x.0 y.0 x.1 c.take_in_row-entry.new.line c.take_in_row-entry.result y.2 in
    made_actor c.args.stage.now c.requires.opened k h (a_line c.args.l.0 ∷ []) c.requires.hand (action.Intake c.args.l) (block_becomes c.args.p.block.0 y.0 ∷ line_becomes c.args.l.0 c.take_in_row-entry.new.line ∷ []) c.take_in_row-entry.result made

pub commit-ticket-requires-clause-lawful : goal.commit-ticket-requires-clause-lawful
commit-ticket-requires-clause-lawful g c κs within =
    let k : Passing g.row.D.Denot = c.args.pass.now in
    let h : CoreHand g.row.D.Denot = c.args.hand.now in
    let x = to_block c.args.stage.now c.requires.opened k h c.args.l c.requires.hand c.args.line.now c.requires.line c.args.p c.requires.pending in
    let y = c.take_in_row-entry.ensures x.0 x.1 in
    let made = intake_made c.args.stage.now c.requires.opened k h c.args.l c.requires.hand c.args.line.now c.requires.line c.args.p c.requires.pending c.requires.version x.0 y.0 x.1 c.take_in_row-entry.new.line c.take_in_row-entry.result y.2 in
    made_lawful c.args.stage.now c.requires.opened k h (a_line c.args.l.0 ∷ []) c.requires.hand (action.Intake c.args.l) (block_becomes c.args.p.block.0 y.0 ∷ line_becomes c.args.l.0 c.take_in_row-entry.new.line ∷ []) c.take_in_row-entry.result made

pub commit-ticket-requires-clause-held : goal.commit-ticket-requires-clause-held
commit-ticket-requires-clause-held g c κs within =
    let k : Passing g.row.D.Denot = c.args.pass.now in
    let h : CoreHand g.row.D.Denot = c.args.hand.now in
    let x = to_block c.args.stage.now c.requires.opened k h c.args.l c.requires.hand c.args.line.now c.requires.line c.args.p c.requires.pending in
    let y = c.take_in_row-entry.ensures x.0 x.1 in
    let made = intake_made c.args.stage.now c.requires.opened k h c.args.l c.requires.hand c.args.line.now c.requires.line c.args.p c.requires.pending c.requires.version x.0 y.0 x.1 c.take_in_row-entry.new.line c.take_in_row-entry.result y.2 in
    made_held c.args.stage.now c.requires.opened k h (a_line c.args.l.0 ∷ []) c.requires.hand (action.Intake c.args.l) (block_becomes c.args.p.block.0 y.0 ∷ line_becomes c.args.l.0 c.take_in_row-entry.new.line ∷ []) c.take_in_row-entry.result made (intake_only c.args.stage.now c.requires.opened k h c.args.l c.requires.hand c.args.line.now c.requires.line c.args.p c.requires.pending c.requires.version)

pub returns-clause-turn : goal.returns-clause-turn
returns-clause-turn g c =
    let k : Passing g.row.D.Denot = c.args.pass.now in
    let h : CoreHand g.row.D.Denot = c.args.hand.now in
    let x = to_block c.args.stage.now c.requires.opened k h c.args.l c.requires.hand c.args.line.now c.requires.line c.args.p c.requires.pending in
    let y = c.take_in_row-entry.ensures x.0 x.1 in
    let made = intake_made c.args.stage.now c.requires.opened k h c.args.l c.requires.hand c.args.line.now c.requires.line c.args.p c.requires.pending c.requires.version x.0 y.0 x.1 c.take_in_row-entry.new.line c.take_in_row-entry.result y.2 in
    let new : CoreHand g.row.D.Denot = record { number = h.number; core = h.core; row = c.take_in_row-entry.new.row } in
    takes_made c.args.stage.now c.requires.opened k h (a_line c.args.l.0 ∷ []) c.requires.hand (action.Intake c.args.l) (block_becomes c.args.p.block.0 y.0 ∷ line_becomes c.args.l.0 c.take_in_row-entry.new.line ∷ []) c.take_in_row-entry.result made c.commit-ticket.new.pass c.commit-ticket.result c.commit-ticket.ensures new refl (λ b. refl)
    (intake_stands c.args.stage.now c.requires.opened k h c.args.l c.requires.hand c.args.line.now c.requires.line c.args.p c.requires.pending c.requires.version x.0 y.0 x.1 c.take_in_row-entry.new.line c.take_in_row-entry.result y.2 new refl refl y.1)

pub returns-clause-line : goal.returns-clause-line
returns-clause-line g c =
    let k : Passing g.row.D.Denot = c.args.pass.now in
    let h : CoreHand g.row.D.Denot = c.args.hand.now in
    let x = to_block c.args.stage.now c.requires.opened k h c.args.l c.requires.hand c.args.line.now c.requires.line c.args.p c.requires.pending in
    let y = c.take_in_row-entry.ensures x.0 x.1 in
    let made = intake_made c.args.stage.now c.requires.opened k h c.args.l c.requires.hand c.args.line.now c.requires.line c.args.p c.requires.pending c.requires.version x.0 y.0 x.1 c.take_in_row-entry.new.line c.take_in_row-entry.result y.2 in
    made_has c.args.stage.now c.requires.opened k h (a_line c.args.l.0 ∷ []) c.requires.hand (action.Intake c.args.l) (block_becomes c.args.p.block.0 y.0 ∷ line_becomes c.args.l.0 c.take_in_row-entry.new.line ∷ []) c.take_in_row-entry.result made c.commit-ticket.new.pass c.commit-ticket.result c.commit-ticket.ensures
    (a_line c.args.l.0) (wire c.args.line.now) (wire c.take_in_row-entry.new.line) c.requires.line
    (line_after c.args.stage.now c.requires.opened k h c.args.l c.requires.hand c.args.line.now c.requires.line c.args.p c.requires.pending c.requires.version x.0 y.0 x.1 c.take_in_row-entry.new.line c.take_in_row-entry.result y.2)
