use Rattle.dc_spelling.proofs.Tickets.{tickets_in_order}
use Rattle.dc_spelling.proofs.tickets_are_in_order.Goals as goal

pub returns : goal.returns
returns c = tickets_in_order
