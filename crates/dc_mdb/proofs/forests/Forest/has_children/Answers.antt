use Rattle.std.proofs.Common.{◌∙◌, ap}
use Rattle.std.specs.Prelude.{nat_lt}
use Rattle.dc_mdb.specs.Forests.{is_parent}
use Rattle.dc_mdb.proofs.Childless.{counted_is_parent}
use Rattle.dc_mdb.proofs.forests.Forest.has_children.Goals as goal

pub returns-clause-value : goal.returns-clause-value
returns-clause-value c = ap (nat_lt 0) (c.self.invariant.counted c.args.s) ∙ counted_is_parent c.args.s c.self.inside.links ∙ ap (λ ns. is_parent ns c.args.s) c.self.view_is
