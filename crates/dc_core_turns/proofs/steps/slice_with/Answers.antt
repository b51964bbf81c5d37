-- A slice with the object that its call needs.
use Rattle.std.proofs.Common.{◌∷◌, refl, sym, subst}
use Rattle.dc_base.specs.declared.actions.Action.TheVariants as action
use Rattle.dc_base.specs.Changes.{block_becomes, core_becomes}
use Rattle.dc_base.specs.NeededLooks.{outside_change}
use Rattle.dc_calls.specs.Outsides.{Fits, outside_seen}
use Rattle.dc_bodies.specs.Sliced.{IsSlice}
use Rattle.dc_core_turns.specs.Beyond.{needed_here}
use Rattle.dc_hands.specs.declared.hands.CoreHand.{CoreHand}
use Rattle.dc_hands.specs.Machines.{Passing}
use Rattle.dc_core_turns.proofs.IdleMade.{hand_budget}
use Rattle.dc_core_turns.proofs.MadeTurns.{made_actor, made_has, made_held, made_lawful, takes_made}
use Rattle.dc_core_turns.proofs.NeededObjects.{outside_fits, outside_made}
use Rattle.dc_core_turns.proofs.SliceMade.{bounds, clock, listed, outside_room, quantum, slice_kind, slice_made, slice_only, slice_same, slice_stands, there}
use Rattle.dc_core_turns.proofs.steps.slice_with.Goals as goal

pub slice_in_row-entry-requires-clause-share : goal.slice_in_row-entry-requires-clause-share
slice_in_row-entry-requires-clause-share g c κs within =
    let k : Passing g.row.D.Denot = c.args.pass.now in
    let h : CoreHand g.row.D.Denot = c.args.hand.now in
    let x = c.requires.next in
    listed c.args.stage.now c.requires.opened k h (needed_here c.args.stage.now c.args.b.0 c.args.need) c.requires.hand c.args.b x.0 x.1

pub slice_in_row-entry-requires-clause-budget : goal.slice_in_row-entry-requires-clause-budget
slice_in_row-entry-requires-clause-budget g c κs within =
    let k : Passing g.row.D.Denot = c.args.pass.now in
    let h : CoreHand g.row.D.Denot = c.args.hand.now in
    hand_budget c.args.stage.now c.requires.opened k h (needed_here c.args.stage.now c.args.b.0 c.args.need) c.requires.hand c.requires.acts

pub slice_in_row-entry-requires-clause-quantum : goal.slice_in_row-entry-requires-clause-quantum
slice_in_row-entry-requires-clause-quantum g c κs within =
    let k : Passing g.row.D.Denot = c.args.pass.now in
    let h : CoreHand g.row.D.Denot = c.args.hand.now in
    let x = c.requires.next in
    quantum c.args.stage.now c.requires.opened k h (needed_here c.args.stage.now c.args.b.0 c.args.need) c.requires.hand c.args.b x.0 x.1

pub slice_in_row-entry-requires-clause-clock : goal.slice_in_row-entry-requires-clause-clock
slice_in_row-entry-requires-clause-clock g c κs within =
    let k : Passing g.row.D.Denot = c.args.pass.now in
    let h : CoreHand g.row.D.Denot = c.args.hand.now in
    let x = c.requires.next in
    clock c.args.stage.now c.requires.opened k h (needed_here c.args.stage.now c.args.b.0 c.args.need) c.requires.hand c.args.b x.0 x.1

pub slice_in_row-entry-requires-clause-block : goal.slice_in_row-entry-requires-clause-block
slice_in_row-entry-requires-clause-block g c κs within =
    let k : Passing g.row.D.Denot = c.args.pass.now in
    let h : CoreHand g.row.D.Denot = c.args.hand.now in
    let x = c.requires.next in
    let is = c.requires.need x.0 (there c.args.stage.now c.requires.opened k h (needed_here c.args.stage.now c.args.b.0 c.args.need) c.requires.hand c.args.b x.0 x.1) in (
      x.0,
      there c.args.stage.now c.requires.opened k h (needed_here c.args.stage.now c.args.b.0 c.args.need) c.requires.hand c.args.b x.0 x.1,
      bounds c.args.stage.now c.requires.opened k h (needed_here c.args.stage.now c.args.b.0 c.args.need) c.requires.hand c.args.b x.0 x.1,
      subst (λ n. Fits n c.args.outside.now) is (outside_fits c.args.stage.now k c.args.b.0 c.args.need c.args.outside.now c.requires.outside),
    )

pub slice_in_row-entry-requires-clause-room : goal.slice_in_row-entry-requires-clause-room
slice_in_row-entry-requires-clause-room g c κs within =
    let k : Passing g.row.D.Denot = c.args.pass.now in
    let h : CoreHand g.row.D.Denot = c.args.hand.now in
    let x = c.requires.next in
    let is = c.requires.need x.0 (there c.args.stage.now c.requires.opened k h (needed_here c.args.stage.now c.args.b.0 c.args.need) c.requires.hand c.args.b x.0 x.1) in
    outside_room c.args.stage.now c.requires.opened k h (needed_here c.args.stage.now c.args.b.0 c.args.need) c.requires.hand c.args.b x.0 x.1 c.args.need is c.requires.acts c.args.outside.now c.requires.outside

pub commit-ticket-requires-clause-actor : goal.commit-ticket-requires-clause-actor
commit-ticket-requires-clause-actor g c κs within =
    let k : Passing g.row.D.Denot = c.args.pass.now in
    let h : CoreHand g.row.D.Denot = c.args.hand.now in
    let x = c.requires.next in
    let is = c.requires.need x.0 (there c.args.stage.now c.requires.opened k h (needed_here c.args.stage.now c.args.b.0 c.args.need) c.requires.hand c.args.b x.0 x.1) in
    let y = c.slice_in_row-entry.ensures.slice x.0 (there c.args.stage.now c.requires.opened k h (needed_here c.args.stage.now c.args.b.0 c.args.need) c.requires.hand c.args.b x.0 x.1) in
    let slice = subst (λ n. IsSlice h.number.0 c.args.b.0 h.core c.slice_in_row-entry.new.core x.0 y.0 n (outside_seen c.args.outside.now) (outside_seen c.slice_in_row-entry.new.outside) c.slice_in_row-entry.result) (sym is) y.2 in
    let made = slice_made c.args.stage.now c.requires.opened k h (needed_here c.args.stage.now c.args.b.0 c.args.need) c.requires.hand c.args.b x.0 x.1 c.args.need is c.requires.acts c.args.outside.now c.requires.outside c.slice_in_row-entry.new.core y.0 c.slice_in_row-entry.new.outside c.slice_in_row-entry.result slice in
    made_actor c.args.stage.now c.requires.opened k h (needed_here c.args.stage.now c.args.b.0 c.args.need) c.requires.hand action.Step (core_becomes h.number.0 c.slice_in_row-entry.new.core ∷ block_becomes c.args.b.0 y.0 ∷ outside_change c.args.b.0 c.args.need (outside_seen c.slice_in_row-entry.new.outside)) c.slice_in_row-entry.result made

pub commit-ticket-requires-clause-lawful : goal.commit-ticket-requires-clause-lawful
commit-ticket-requires-clause-lawful g c κs within =
    let k : Passing g.row.D.Denot = c.args.pass.now in
    let h : CoreHand g.row.D.Denot = c.args.hand.now in
    let x = c.requires.next in
    let is = c.requires.need x.0 (there c.args.stage.now c.requires.opened k h (needed_here c.args.stage.now c.args.b.0 c.args.need) c.requires.hand c.args.b x.0 x.1) in
    let y = c.slice_in_row-entry.ensures.slice x.0 (there c.args.stage.now c.requires.opened k h (needed_here c.args.stage.now c.args.b.0 c.args.need) c.requires.hand c.args.b x.0 x.1) in
    let slice = subst (λ n. IsSlice h.number.0 c.args.b.0 h.core c.slice_in_row-entry.new.core x.0 y.0 n (outside_seen c.args.outside.now) (outside_seen c.slice_in_row-entry.new.outside) c.slice_in_row-entry.result) (sym is) y.2 in
    let made = slice_made c.args.stage.now c.requires.opened k h (needed_here c.args.stage.now c.args.b.0 c.args.need) c.requires.hand c.args.b x.0 x.1 c.args.need is c.requires.acts c.args.outside.now c.requires.outside c.slice_in_row-entry.new.core y.0 c.slice_in_row-entry.new.outside c.slice_in_row-entry.result slice in
    made_lawful c.args.stage.now c.requires.opened k h (needed_here c.args.stage.now c.args.b.0 c.args.need) c.requires.hand action.Step (core_becomes h.number.0 c.slice_in_row-entry.new.core ∷ block_becomes c.args.b.0 y.0 ∷ outside_change c.args.b.0 c.args.need (outside_seen c.slice_in_row-entry.new.outside)) c.slice_in_row-entry.result made

pub commit-ticket-requires-clause-held : goal.commit-ticket-requires-clause-held
commit-ticket-requires-clause-held g c κs within =
    let k : Passing g.row.D.Denot = c.args.pass.now in
    let h : CoreHand g.row.D.Denot = c.args.hand.now in
    let x = c.requires.next in
    let is = c.requires.need x.0 (there c.args.stage.now c.requires.opened k h (needed_here c.args.stage.now c.args.b.0 c.args.need) c.requires.hand c.args.b x.0 x.1) in
    let y = c.slice_in_row-entry.ensures.slice x.0 (there c.args.stage.now c.requires.opened k h (needed_here c.args.stage.now c.args.b.0 c.args.need) c.requires.hand c.args.b x.0 x.1) in
    let slice = subst (λ n. IsSlice h.number.0 c.args.b.0 h.core c.slice_in_row-entry.new.core x.0 y.0 n (outside_seen c.args.outside.now) (outside_seen c.slice_in_row-entry.new.outside) c.slice_in_row-entry.result) (sym is) y.2 in
    let made = slice_made c.args.stage.now c.requires.opened k h (needed_here c.args.stage.now c.args.b.0 c.args.need) c.requires.hand c.args.b x.0 x.1 c.args.need is c.requires.acts c.args.outside.now c.requires.outside c.slice_in_row-entry.new.core y.0 c.slice_in_row-entry.new.outside c.slice_in_row-entry.result slice in
    made_held c.args.stage.now c.requires.opened k h (needed_here c.args.stage.now c.args.b.0 c.args.need) c.requires.hand action.Step (core_becomes h.number.0 c.slice_in_row-entry.new.core ∷ block_becomes c.args.b.0 y.0 ∷ outside_change c.args.b.0 c.args.need (outside_seen c.slice_in_row-entry.new.outside)) c.slice_in_row-entry.result made (slice_only c.args.stage.now c.requires.opened k h (needed_here c.args.stage.now c.args.b.0 c.args.need) c.requires.hand c.args.b x.0 x.1 c.args.need is c.requires.acts)

pub returns-clause-turn : goal.returns-clause-turn
returns-clause-turn g c =
    let k : Passing g.row.D.Denot = c.args.pass.now in
    let h : CoreHand g.row.D.Denot = c.args.hand.now in
    let x = c.requires.next in
    let is = c.requires.need x.0 (there c.args.stage.now c.requires.opened k h (needed_here c.args.stage.now c.args.b.0 c.args.need) c.requires.hand c.args.b x.0 x.1) in
    let y = c.slice_in_row-entry.ensures.slice x.0 (there c.args.stage.now c.requires.opened k h (needed_here c.args.stage.now c.args.b.0 c.args.need) c.requires.hand c.args.b x.0 x.1) in
    let slice = subst (λ n. IsSlice h.number.0 c.args.b.0 h.core c.slice_in_row-entry.new.core x.0 y.0 n (outside_seen c.args.outside.now) (outside_seen c.slice_in_row-entry.new.outside) c.slice_in_row-entry.result) (sym is) y.2 in
    let made = slice_made c.args.stage.now c.requires.opened k h (needed_here c.args.stage.now c.args.b.0 c.args.need) c.requires.hand c.args.b x.0 x.1 c.args.need is c.requires.acts c.args.outside.now c.requires.outside c.slice_in_row-entry.new.core y.0 c.slice_in_row-entry.new.outside c.slice_in_row-entry.result slice in
    let new : CoreHand g.row.D.Denot = record { number = h.number; core = c.slice_in_row-entry.new.core; row = c.slice_in_row-entry.new.row } in
    takes_made c.args.stage.now c.requires.opened k h (needed_here c.args.stage.now c.args.b.0 c.args.need) c.requires.hand action.Step (core_becomes h.number.0 c.slice_in_row-entry.new.core ∷ block_becomes c.args.b.0 y.0 ∷ outside_change c.args.b.0 c.args.need (outside_seen c.slice_in_row-entry.new.outside)) c.slice_in_row-entry.result made c.commit-ticket.new.pass c.commit-ticket.result c.commit-ticket.ensures new refl (slice_same c.args.stage.now c.requires.opened k h (needed_here c.args.stage.now c.args.b.0 c.args.need) c.requires.hand c.args.b x.0 x.1 c.args.need is c.requires.acts c.args.outside.now c.requires.outside c.slice_in_row-entry.new.core y.0 c.slice_in_row-entry.new.outside c.slice_in_row-entry.result slice) (slice_stands c.args.stage.now c.requires.opened k h (needed_here c.args.stage.now c.args.b.0 c.args.need) c.requires.hand c.args.b x.0 x.1 c.args.need is c.requires.acts c.args.outside.now c.requires.outside c.slice_in_row-entry.new.core y.0 c.slice_in_row-entry.new.outside c.slice_in_row-entry.result slice new refl refl y.1)

pub returns-clause-outside : goal.returns-clause-outside
returns-clause-outside g c =
    let k : Passing g.row.D.Denot = c.args.pass.now in
    let h : CoreHand g.row.D.Denot = c.args.hand.now in
    let x = c.requires.next in
    let is = c.requires.need x.0 (there c.args.stage.now c.requires.opened k h (needed_here c.args.stage.now c.args.b.0 c.args.need) c.requires.hand c.args.b x.0 x.1) in
    let y = c.slice_in_row-entry.ensures.slice x.0 (there c.args.stage.now c.requires.opened k h (needed_here c.args.stage.now c.args.b.0 c.args.need) c.requires.hand c.args.b x.0 x.1) in
    let slice = subst (λ n. IsSlice h.number.0 c.args.b.0 h.core c.slice_in_row-entry.new.core x.0 y.0 n (outside_seen c.args.outside.now) (outside_seen c.slice_in_row-entry.new.outside) c.slice_in_row-entry.result) (sym is) y.2 in
    let made = slice_made c.args.stage.now c.requires.opened k h (needed_here c.args.stage.now c.args.b.0 c.args.need) c.requires.hand c.args.b x.0 x.1 c.args.need is c.requires.acts c.args.outside.now c.requires.outside c.slice_in_row-entry.new.core y.0 c.slice_in_row-entry.new.outside c.slice_in_row-entry.result slice in
    outside_made c.args.stage.now k c.args.b.0 c.commit-ticket.new.pass h.number.0 c.slice_in_row-entry.new.core y.0 c.args.need c.args.outside.now c.slice_in_row-entry.new.outside c.requires.outside (slice_kind c.args.stage.now c.requires.opened k h (needed_here c.args.stage.now c.args.b.0 c.args.need) c.requires.hand c.args.b x.0 x.1 c.args.need is c.requires.acts c.args.outside.now c.requires.outside c.slice_in_row-entry.new.core y.0 c.slice_in_row-entry.new.outside c.slice_in_row-entry.result slice)
    (made_has c.args.stage.now c.requires.opened k h (needed_here c.args.stage.now c.args.b.0 c.args.need) c.requires.hand action.Step (core_becomes h.number.0 c.slice_in_row-entry.new.core ∷ block_becomes c.args.b.0 y.0 ∷ outside_change c.args.b.0 c.args.need (outside_seen c.slice_in_row-entry.new.outside)) c.slice_in_row-entry.result made c.commit-ticket.new.pass c.commit-ticket.result c.commit-ticket.ensures)
