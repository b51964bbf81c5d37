use Rattle.std.proofs.Common.{sym, subst}
use Rattle.dc_caps.specs.Caps.{IsCap}
use Rattle.dc_caps.proofs.Tabled.{masked_is}
use Rattle.dc_caps.proofs.table.Table.copy.Goals as goal

pub graft-requires-clause-cap : goal.graft-requires-clause-cap
graft-requires-clause-cap c = subst IsCap (sym c.masked.ensures) (masked_is c.in-Some.cap c.args.mask c.in-Some.ensures.form)
