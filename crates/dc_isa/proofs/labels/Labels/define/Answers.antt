use Rattle.dc_isa.proofs.LabelLaws.{place_of-updated, names-updated}
use Rattle.dc_isa.proofs.labels.Labels.define.Goals as goal

pub returns : goal.returns
returns c = record {
  names = names-updated c.args.name.now c.args.place c.args.self.now.places c.insert.new.self c.in_ok-insert.ensures.updates;
  place = place_of-updated c.args.name.now c.args.place c.args.self.now.places c.insert.new.self c.in_ok-insert.ensures.updates;
}
