use Rattle.std.proofs.Common.{sym, ◌∙◌}
use Rattle.dc_bodies.proofs.OrderTurns.{no_order}
use Rattle.dc_bodies.proofs.orders.order_of.Goals as goal

pub returns-in-None-clause-none : goal.returns-in-None-clause-none
returns-in-None-clause-none c = no_order c.args.mailbox.now (sym c.in-None.is ∙ c.order.ensures)
