use Rattle.dc_journal_laws.proofs.CarryingOut.{carried_out_as_posted, carried_out_before, carried_out_once, one_at_most}
use Rattle.dc_journal_laws.proofs.orders_are_carried_out.Goals as goal

pub returns-clause-as_posted : goal.returns-clause-as_posted
returns-clause-as_posted c = carried_out_as_posted

pub returns-clause-before : goal.returns-clause-before
returns-clause-before c = carried_out_before

pub returns-clause-once : goal.returns-clause-once
returns-clause-once c = carried_out_once

pub returns-clause-at_most_once : goal.returns-clause-at_most_once
returns-clause-at_most_once c = one_at_most
