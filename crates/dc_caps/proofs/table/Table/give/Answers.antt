use Rattle.std.proofs.Common.{List, sym, ◌∙◌, ap, subst}
use Rattle.dc_base.specs.Capabilities.{Seat, without_line}
use Rattle.dc_caps.specs.Caps.{Caps}
use Rattle.dc_caps.specs.Seats.{seats_of, line_slots}
use Rattle.dc_caps.specs.Tables.{IsWithin}
use Rattle.dc_caps.proofs.Holding.{given_seats, taken_within}
use Rattle.dc_caps.proofs.table.Table.give.Goals as goal

pub invariant_of-self : goal.invariant_of-self
invariant_of-self c = let t = c.self.inside in subst (λ ns. IsWithin (record t { forest = ns })) (sym c.remove_line.ensures) (taken_within (line_slots c.args.line.0 t.caps t.forest) t c.self.invariant)

pub returns : goal.returns
returns c =
    let t = c.self.inside in let l = c.args.line.0 in
    ap (λ (set : List Seat). record { set = set; disps = t.disps }) (ap (seats_of t.caps) c.remove_line.ensures ∙ given_seats t.caps l t.forest)
    ∙ ap (λ (t : Caps). record t { set = without_line l t.set }) c.self.view_is
