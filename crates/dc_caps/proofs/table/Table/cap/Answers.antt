use Rattle.std.proofs.Common.{Some, None, sym, ◌∙◌, ap, subst, if◌then◌else◌}
use Rattle.std.specs.Prelude.{slice_index_or}
use Rattle.dc_base.specs.Capabilities.{cap_at}
use Rattle.dc_caps.specs.Caps.{Caps, IsCap, IsTable}
use Rattle.dc_caps.specs.Seats.{no_cap}
use Rattle.dc_caps.proofs.Seating.{cap_seats}
use Rattle.dc_caps.proofs.Tabled.{caps_at, table_of}
use Rattle.dc_caps.proofs.table.Table.cap.Goals as goal

pub returns-then-contains-clause-value : goal.returns-then-contains-clause-value
returns-then-contains-clause-value c =
    let t = c.self.inside in let s = c.args.s.0 in
    ap Some c.cap_in.ensures ∙ ap (λ b. if b then Some (slice_index_or t.caps s no_cap) else None) (sym (sym c.contains.ensures.value ∙ c.if-contains.true)) ∙ sym (cap_seats t.caps t.forest s) ∙ ap (λ (t : Caps). cap_at t.set s) c.self.view_is

pub returns-then-contains-clause-form : goal.returns-then-contains-clause-form
returns-then-contains-clause-form c = subst IsCap (sym c.cap_in.ensures) (caps_at c.self.inside.caps c.self.invariant.caps c.args.s.0)

pub returns-then-contains-clause-table : goal.returns-then-contains-clause-table
returns-then-contains-clause-table c = let t = c.self.inside in subst IsTable c.self.view_is (table_of t.caps t.forest t.disps c.self.invariant.some c.self.invariant.disps c.self.invariant.caps c.self.invariant.slots c.contains.ensures.forest)

pub returns-else-contains-clause-value : goal.returns-else-contains-clause-value
returns-else-contains-clause-value c =
    let t = c.self.inside in let s = c.args.s.0 in
    ap (λ b. if b then Some (slice_index_or t.caps s no_cap) else None) (sym (sym c.contains.ensures.value ∙ c.if-contains.false)) ∙ sym (cap_seats t.caps t.forest s) ∙ ap (λ (t : Caps). cap_at t.set s) c.self.view_is

pub returns-else-contains-clause-table : goal.returns-else-contains-clause-table
returns-else-contains-clause-table c = let t = c.self.inside in subst IsTable c.self.view_is (table_of t.caps t.forest t.disps c.self.invariant.some c.self.invariant.disps c.self.invariant.caps c.self.invariant.slots c.contains.ensures.forest)
