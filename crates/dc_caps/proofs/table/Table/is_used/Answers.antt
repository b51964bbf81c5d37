use Rattle.std.proofs.Common.{sym, ◌∙◌, ap}
use Rattle.dc_base.specs.Capabilities.{is_used}
use Rattle.dc_caps.specs.Caps.{Caps}
use Rattle.dc_caps.proofs.Seating.{used_seats}
use Rattle.dc_caps.proofs.table.Table.is_used.Goals as goal

pub returns : goal.returns
returns c = c.contains.ensures.value ∙ sym (used_seats c.self.inside.caps c.self.inside.forest c.args.s.0) ∙ ap (λ (t : Caps). is_used t.set c.args.s.0) c.self.view_is
