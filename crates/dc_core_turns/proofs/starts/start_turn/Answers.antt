use Rattle.dc_core_turns.proofs.OrderedTurns.{started_order, started_hand}
use Rattle.dc_core_turns.proofs.starts.start_turn.Goals as goal

pub acknowledge-requires-clause-order : goal.acknowledge-requires-clause-order
acknowledge-requires-clause-order g c κs within =
    started_order c.args.stage.now c.requires.opened c.args.pass.now c.args.hand.now c.args.mailbox c.requires.hand c.args.v c.requires.order
    c.start_held-entry.new.core c.start_held-entry.new.mailbox c.start_held-entry.result c.start_held-entry.ensures

pub returns-clause-hand : goal.returns-clause-hand
returns-clause-hand g c =
    started_hand c.args.stage.now c.requires.opened c.args.pass.now c.args.hand.now c.args.mailbox c.requires.hand c.args.v c.requires.order
    c.start_held-entry.new.core c.start_held-entry.new.mailbox c.start_held-entry.result c.start_held-entry.ensures
    c.acknowledge.new.pass c.acknowledge.result c.acknowledge.ensures
