use Rattle.std.proofs.Common.{subst, ◌≤◌, List, length}
use Rattle.dc_base.specs.States.{Member}
use Rattle.dc_hands.specs.Machines.{state_after}
use Rattle.dc_core_turns.proofs.OrderAdoptions.{offer_can, offer_apart, adopt_order, adopt_hand, no_block_has, no_mailbox_has, no_hand, no_answers, room_for_one}
use Rattle.dc_core_turns.proofs.adoptions.adopt_taken.Goals as goal

pub adopt_held-requires-clause-block : goal.adopt_held-requires-clause-block
adopt_held-requires-clause-block g c κs within =
    offer_can c.args.stage.now c.requires.opened c.args.pass.now c.args.hand.now c.args.mailbox c.args.b c.args.block c.requires.hand c.args.parked c.requires.order

pub add-requires-clause-room : goal.add-requires-clause-room
add-requires-clause-room g c κs within =
    room_for_one (state_after c.args.stage.now c.args.pass.now.seen) c.args.hand.now c.requires.hand.beside.shows c.len-2.ensures.numbered
    (subst (λ (s : List Member). length s ≤ 9) c.share.ensures c.len.ensures.most)

pub add-requires-clause-apart : goal.add-requires-clause-apart
add-requires-clause-apart g c κs within =
    offer_apart c.args.stage.now c.requires.opened c.args.pass.now c.args.hand.now c.args.mailbox c.args.b c.args.block c.requires.hand c.args.parked c.requires.order

pub acknowledge-requires-clause-order : goal.acknowledge-requires-clause-order
acknowledge-requires-clause-order g c κs within =
    adopt_order c.args.stage.now c.requires.opened c.args.pass.now c.args.hand.now c.args.mailbox c.args.b c.args.block c.requires.hand c.args.parked c.requires.order
    c.adopt_held.new.core c.adopt_held.new.mailbox c.adopt_held.new.block c.in-Ok.entry c.in-Ok.ensures.turn

pub returns-in-Ok-clause-hand : goal.returns-in-Ok-clause-hand
returns-in-Ok-clause-hand g c =
    adopt_hand c.args.stage.now c.requires.opened c.args.pass.now c.args.hand.now c.args.mailbox c.args.b c.args.block c.requires.hand c.args.parked c.requires.order
    c.adopt_held.new.core c.adopt_held.new.mailbox c.adopt_held.new.block c.in-Ok.entry c.in-Ok.ensures.turn
    c.acknowledge.new.pass c.acknowledge.result c.acknowledge.ensures c.add.new.self c.add.ensures.here c.add.ensures.others

pub put_block-requires-clause-held : goal.put_block-requires-clause-held
put_block-requires-clause-held g c κs within =
    no_block_has c.args.stage.now c.requires.opened c.args.pass.now c.args.hand.now c.args.mailbox c.args.b c.args.block c.requires.hand c.args.parked c.requires.order
    c.adopt_held.new.core c.adopt_held.new.mailbox c.adopt_held.new.block c.in-Err.why c.in-Err.ensures.refused

pub put_mailbox-requires-clause-held : goal.put_mailbox-requires-clause-held
put_mailbox-requires-clause-held g c κs within =
    no_mailbox_has c.args.stage.now c.requires.opened c.args.pass.now c.args.hand.now c.args.mailbox c.args.b c.args.block c.requires.hand c.args.parked c.requires.order
    c.adopt_held.new.core c.adopt_held.new.mailbox c.adopt_held.new.block c.in-Err.why c.in-Err.ensures.refused c.put_block.new.pass c.put_block.ensures

pub returns-in-Err-clause-hand : goal.returns-in-Err-clause-hand
returns-in-Err-clause-hand g c =
    no_hand c.args.stage.now c.requires.opened c.args.pass.now c.args.hand.now c.args.mailbox c.args.b c.args.block c.requires.hand c.args.parked c.requires.order
    c.adopt_held.new.core c.adopt_held.new.mailbox c.adopt_held.new.block c.in-Err.why c.in-Err.ensures.refused c.put_block.new.pass c.put_block.ensures
    c.put_mailbox.new.pass c.put_mailbox.ensures

pub returns-in-Err-clause-turn : goal.returns-in-Err-clause-turn
returns-in-Err-clause-turn g c =
    no_answers c.args.stage.now c.requires.opened c.args.pass.now c.args.hand.now c.args.mailbox c.args.b c.args.block c.requires.hand c.args.parked c.requires.order
    c.adopt_held.new.core c.adopt_held.new.mailbox c.adopt_held.new.block c.in-Err.why c.in-Err.ensures.refused c.put_block.new.pass c.put_block.ensures
    c.put_mailbox.new.pass c.put_mailbox.ensures
