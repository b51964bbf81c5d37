use Rattle.std.proofs.Common.{◌∙◌}
use Rattle.dc_isa.proofs.LabelLaws.{names-get}
use Rattle.dc_isa.proofs.labels.Labels.has.Goals as goal

pub returns : goal.returns
returns c = c.contains_key.ensures ∙ names-get c.args.self.now.places c.args.name.now
