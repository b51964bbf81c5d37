use Rattle.std.proofs.Common.{◌∙◌}
use Rattle.dc_isa.proofs.LabelLaws.{place_of-get}
use Rattle.dc_isa.proofs.labels.Labels.place_of.Goals as goal

pub returns : goal.returns
returns c = c.copied.ensures ∙ c.get.ensures.value ∙ place_of-get c.args.self.now.places c.args.name.now
