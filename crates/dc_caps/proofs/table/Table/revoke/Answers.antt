use Rattle.std.proofs.Common.{◌≡◌, ◌+◌, sym, ◌∙◌, ap, length}
use Rattle.dc_base.specs.Capabilities.{is_used, after_revoke, slot_number}
use Rattle.dc_mdb.specs.Forests.{descendants}
use Rattle.dc_caps.specs.Caps.{Caps}
use Rattle.dc_caps.specs.Seats.{seats_of}
use Rattle.dc_caps.specs.Tables.{caps_seen}
use Rattle.dc_caps.proofs.Called.{revoke_made}
use Rattle.dc_caps.proofs.Changing.{revoked_now, revoked_kept}
use Rattle.dc_caps.proofs.Tabled.{revoked_count}
use Rattle.dc_caps.proofs.table.Table.revoke.Goals.{After-prune}
use Rattle.dc_caps.proofs.table.Table.revoke.Goals as goal

pub invariant_of-self : goal.invariant_of-self
invariant_of-self c = revoked_kept c.self.inside c.args.self.now c.self.view_is c.self.invariant c.prune.new.self c.slot_of-slot.result.0 c.prune.ensures.after

left : (c : After-prune) → caps_seen (record c.self.inside { forest = c.prune.new.self }) ≡ record c.args.self.now { set = after_revoke (slot_number c.args.d.0 c.args.a) c.args.self.now.set }
left c =
    let now = c.args.self.now in
    revoked_now c.self.inside now c.self.view_is c.prune.new.self c.slot_of-slot.result.0 c.prune.ensures.after ∙ ap (λ s. record now { set = after_revoke s now.set }) c.slot_of-slot.ensures.value

pub returns-clause-ok : goal.returns-clause-ok
returns-clause-ok c = ap (λ (t : Caps). t.set) (left (goal.at.returns-clause-ok c).After-prune)

pub returns-clause-call : goal.returns-clause-call
returns-clause-call c p same many =
    let now = c.args.self.now in
    let after : Caps = caps_seen (record c.self.inside { forest = c.prune.new.self }) in
    revoke_made p now same _ after (ap (is_used now.set) (sym c.slot_of-slot.ensures.value) ∙ sym c.is_used.ensures ∙ c.if-not-is_used.false) (left (goal.at.returns-clause-call c).After-prune)

pub returns-clause-count : goal.returns-clause-count
returns-clause-count c =
    let t = c.self.inside in let s = c.slot_of-slot.result.0 in
    ap (λ n. n + length (seats_of t.caps c.prune.new.self)) c.prune.ensures.count
    ∙ ap (λ ns. length (descendants t.forest s) + length (seats_of t.caps ns)) c.prune.ensures.after
    ∙ revoked_count t.caps t.forest s
    ∙ ap (λ (t : Caps). length t.set) c.self.view_is
