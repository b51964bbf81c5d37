use Rattle.std.proofs.Common.{sym, subst, replicate}
use Rattle.dc_caps.specs.Seats.{no_cap}
use Rattle.dc_caps.specs.Tables.{IsWithin}
use Rattle.dc_caps.proofs.Tabled.{new_within}
use Rattle.dc_caps.proofs.table.Table.new.Goals as goal

pub invariant_of-result : goal.invariant_of-result
invariant_of-result c = subst (λ ns. IsWithin (record { caps = replicate 256 no_cap; forest = ns; disps = c.args.disps })) (sym c.new.ensures) (new_within 256 c.args.disps c.requires.some c.requires.most)
