-- A dispatcher that goes on is ready again.
use Rattle.std.proofs.Common.{[], ◌∷◌, refl}
use Rattle.dc_base.specs.declared.actions.Action.TheVariants as action
use Rattle.dc_base.specs.Changes.{a_channel, block_becomes, core_becomes, channel}
use Rattle.dc_bodies.specs.Waits.{channel_of}
use Rattle.dc_hands.specs.declared.hands.CoreHand.{CoreHand}
use Rattle.dc_hands.specs.Machines.{Passing}
use Rattle.dc_core_turns.proofs.IdleMade.{hand_budget}
use Rattle.dc_core_turns.proofs.MadeTurns.{made_actor, made_has, made_held, made_lawful, takes_made}
use Rattle.dc_core_turns.proofs.WakeMade.{wake_block, wake_made, wake_only, wake_same, wake_stands}
use Rattle.dc_core_turns.proofs.wakes.wake.Goals as goal

pub wake_in_row-entry-requires-clause-budget : goal.wake_in_row-entry-requires-clause-budget
wake_in_row-entry-requires-clause-budget g c κs within =
    hand_budget c.args.stage.now c.requires.opened c.args.pass.now c.args.hand.now (a_channel (channel_of c.args.wait).0 ∷ []) c.requires.hand c.requires.block.2.acts

pub wake_in_row-entry-requires-clause-block : goal.wake_in_row-entry-requires-clause-block
wake_in_row-entry-requires-clause-block g c κs within =
    let k : Passing g.row.D.Denot = c.args.pass.now in
    let h : CoreHand g.row.D.Denot = c.args.hand.now in
    let x = c.requires.block in
    wake_block c.args.stage.now c.requires.opened k h c.args.wait c.requires.hand c.args.waited.now c.requires.channel c.args.b c.args.d x.0 x.1 x.2

pub commit-ticket-requires-clause-actor : goal.commit-ticket-requires-clause-actor
commit-ticket-requires-clause-actor g c κs within =
    let k : Passing g.row.D.Denot = c.args.pass.now in
    let h : CoreHand g.row.D.Denot = c.args.hand.now in
    let x = c.requires.block in
    let y = c.wake_in_row-entry.ensures x.0 x.1 in
    let made = wake_made c.args.stage.now c.requires.opened k h c.args.wait c.requires.hand c.args.waited.now c.requires.channel c.args.b c.args.d x.0 x.1 x.2 c.wake_in_row-entry.new.core y.0 c.wake_in_row-entry.result y.2 in
    made_actor c.args.stage.now c.requires.opened k h (a_channel (channel_of c.args.wait).0 ∷ []) c.requires.hand (action.Wake c.args.b c.args.d) (core_becomes h.number.0 c.wake_in_row-entry.new.core ∷ block_becomes c.args.b.0 y.0 ∷ []) c.wake_in_row-entry.result made

pub commit-ticket-requires-clause-lawful : goal.commit-ticket-requires-clause-lawful
commit-ticket-requires-clause-lawful g c κs within =
    let k : Passing g.row.D.Denot = c.args.pass.now in
    let h : CoreHand g.row.D.Denot = c.args.hand.now in
    let x = c.requires.block in
    let y = c.wake_in_row-entry.ensures x.0 x.1 in
    let made = wake_made c.args.stage.now c.requires.opened k h c.args.wait c.requires.hand c.args.waited.now c.requires.channel c.args.b c.args.d x.0 x.1 x.2 c.wake_in_row-entry.new.core y.0 c.wake_in_row-entry.result y.2 in
    made_lawful c.args.stage.now c.requires.opened k h (a_channel (channel_of c.args.wait).0 ∷ []) c.requires.hand (action.Wake c.args.b c.args.d) (core_becomes h.number.0 c.wake_in_row-entry.new.core ∷ block_becomes c.args.b.0 y.0 ∷ []) c.wake_in_row-entry.result made

pub commit-ticket-requires-clause-held : goal.commit-ticket-requires-clause-held
commit-ticket-requires-clause-held g c κs within =
    let k : Passing g.row.D.Denot = c.args.pass.now in
    let h : CoreHand g.row.D.Denot = c.args.hand.now in
    let x = c.requires.block in
    let y = c.wake_in_row-entry.ensures x.0 x.1 in
    let made = wake_made c.args.stage.now c.requires.opened k h c.args.wait c.requires.hand c.args.waited.now c.requires.channel c.args.b c.args.d x.0 x.1 x.2 c.wake_in_row-entry.new.core y.0 c.wake_in_row-entry.result y.2 in
    made_held c.args.stage.now c.requires.opened k h (a_channel (channel_of c.args.wait).0 ∷ []) c.requires.hand (action.Wake c.args.b c.args.d) (core_becomes h.number.0 c.wake_in_row-entry.new.core ∷ block_becomes c.args.b.0 y.0 ∷ []) c.wake_in_row-entry.result made (wake_only c.args.stage.now c.requires.opened k h c.args.wait c.requires.hand c.args.waited.now c.requires.channel c.args.b c.args.d x.0 x.1 x.2)

pub returns-clause-turn : goal.returns-clause-turn
returns-clause-turn g c =
    let k : Passing g.row.D.Denot = c.args.pass.now in
    let h : CoreHand g.row.D.Denot = c.args.hand.now in
    let x = c.requires.block in
    let y = c.wake_in_row-entry.ensures x.0 x.1 in
    let made = wake_made c.args.stage.now c.requires.opened k h c.args.wait c.requires.hand c.args.waited.now c.requires.channel c.args.b c.args.d x.0 x.1 x.2 c.wake_in_row-entry.new.core y.0 c.wake_in_row-entry.result y.2 in
    let new : CoreHand g.row.D.Denot = record { number = h.number; core = c.wake_in_row-entry.new.core; row = c.wake_in_row-entry.new.row } in
    takes_made c.args.stage.now c.requires.opened k h (a_channel (channel_of c.args.wait).0 ∷ []) c.requires.hand (action.Wake c.args.b c.args.d) (core_becomes h.number.0 c.wake_in_row-entry.new.core ∷ block_becomes c.args.b.0 y.0 ∷ []) c.wake_in_row-entry.result made c.commit-ticket.new.pass c.commit-ticket.result c.commit-ticket.ensures new refl
    (wake_same c.args.stage.now c.requires.opened k h c.args.wait c.requires.hand c.args.waited.now c.requires.channel c.args.b c.args.d x.0 x.1 x.2 c.wake_in_row-entry.new.core y.0 c.wake_in_row-entry.result y.2)
    (wake_stands c.args.stage.now c.requires.opened k h c.args.wait c.requires.hand c.args.waited.now c.requires.channel c.args.b c.args.d x.0 x.1 x.2 c.wake_in_row-entry.new.core y.0 c.wake_in_row-entry.result y.2 new refl refl y.1)

pub returns-clause-channel : goal.returns-clause-channel
returns-clause-channel g c =
    let k : Passing g.row.D.Denot = c.args.pass.now in
    let h : CoreHand g.row.D.Denot = c.args.hand.now in
    let x = c.requires.block in
    let y = c.wake_in_row-entry.ensures x.0 x.1 in
    let made = wake_made c.args.stage.now c.requires.opened k h c.args.wait c.requires.hand c.args.waited.now c.requires.channel c.args.b c.args.d x.0 x.1 x.2 c.wake_in_row-entry.new.core y.0 c.wake_in_row-entry.result y.2 in
    made_has c.args.stage.now c.requires.opened k h (a_channel (channel_of c.args.wait).0 ∷ []) c.requires.hand (action.Wake c.args.b c.args.d) (core_becomes h.number.0 c.wake_in_row-entry.new.core ∷ block_becomes c.args.b.0 y.0 ∷ []) c.wake_in_row-entry.result made c.commit-ticket.new.pass c.commit-ticket.result c.commit-ticket.ensures
    (a_channel (channel_of c.args.wait).0) (channel c.args.waited.now) (channel c.args.waited.now) c.requires.channel c.requires.channel.stands
