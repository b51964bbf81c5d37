use Rattle.std.proofs.Common.{◌≡◌, sym, ◌∙◌, ap}
use Rattle.dc_base.specs.Capabilities.{parent_at}
use Rattle.dc_caps.specs.Caps.{Caps}
use Rattle.dc_caps.proofs.Seating.{parent_seats}
use Rattle.dc_caps.proofs.table.Table.parent.Goals.{After-parent}
use Rattle.dc_caps.proofs.table.Table.parent.Goals as goal

found : (c : After-parent) → c.parent.result ≡ parent_at c.args.self.now.set c.args.s.0
found c = c.parent.ensures.value ∙ sym (parent_seats c.self.inside.caps c.self.inside.forest c.args.s.0) ∙ ap (λ (t : Caps). parent_at t.set c.args.s.0) c.self.view_is

pub returns-in-Some : goal.returns-in-Some
returns-in-Some c = sym c.in-Some.is ∙ found (goal.at.returns-in-Some c).After-parent

pub returns-in-None : goal.returns-in-None
returns-in-None c = sym c.in-None.is ∙ found (goal.at.returns-in-None c).After-parent
