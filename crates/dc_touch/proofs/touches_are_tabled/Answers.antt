use Rattle.dc_touch.proofs.TabledTurns.{entry_tabled, entry_listed, entry_tabled_by_number}
use Rattle.dc_touch.proofs.touches_are_tabled.Goals as goal

pub returns-clause-rearranged : goal.returns-clause-rearranged
returns-clause-rearranged c = entry_tabled

pub returns-clause-listed : goal.returns-clause-listed
returns-clause-listed c = entry_listed

pub returns-clause-by_number : goal.returns-clause-by_number
returns-clause-by_number c = entry_tabled_by_number
