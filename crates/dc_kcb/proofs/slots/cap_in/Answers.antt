use Rattle.std.proofs.Common.{arith}
use Rattle.dc_kcb.proofs.EmptySlots.{no_cap_past}
use Rattle.dc_kcb.proofs.slots.cap_in.Goals as goal

pub returns-else-s-lt256-clause-value : goal.returns-else-s-lt256-clause-value
returns-else-s-lt256-clause-value c = no_cap_past _ _ c.cap-low.ensures.table (omega arith)
