use Rattle.std.proofs.Common.{◌≡◌, Err, sym, ◌∙◌, ap}
use Rattle.dc_base.specs.Capabilities.{is_used, after_delete, slot_number}
use Rattle.dc_caps.specs.Caps.{Caps}
use Rattle.dc_caps.specs.Tables.{caps_seen}
use Rattle.dc_caps.proofs.Called.{delete_made, delete_empty}
use Rattle.dc_caps.proofs.Changing.{used_now, deleted_now, deleted_kept, there_where, only_absent, never_ok, any_ok}
use Rattle.dc_caps.proofs.table.Table.delete.Goals.{in-Ok, in-Err, After-remove}
use Rattle.dc_caps.proofs.table.Table.delete.Goals as goal

pub invariant_of-self : goal.invariant_of-self
invariant_of-self c = deleted_kept c.self.inside c.args.self.now c.self.view_is c.self.invariant c.remove.new.self c.slot_of-slot.result.0 c.remove.ensures.after

left : (c : After-remove) → caps_seen (record c.self.inside { forest = c.remove.new.self }) ≡ record c.args.self.now { set = after_delete (slot_number c.args.d.0 c.args.a) c.args.self.now.set }
left c =
    let now = c.args.self.now in
    deleted_now c.self.inside now c.self.view_is c.remove.new.self c.slot_of-slot.result.0 c.remove.ensures.after ∙ ap (λ s. record now { set = after_delete s now.set }) c.slot_of-slot.ensures.value

pub returns-clause-ok : goal.returns-clause-ok
returns-clause-ok c = any_ok c.match-remove.result _ (ap (λ (t : Caps). t.set) (left (goal.at.returns-clause-ok c).After-remove))

pub returns-clause-call : goal.returns-clause-call
returns-clause-call c p same many =
    let now = c.args.self.now in let s = c.slot_of-slot.result.0 in let to = c.slot_of-slot.ensures.value in
    let after : Caps = caps_seen (record c.self.inside { forest = c.remove.new.self }) in
    let is_after = left (goal.at.returns-clause-call c).After-remove in
    let used = used_now c.self.inside now c.self.view_is s in
    elim c.match-remove.branch [
      | in-Ok w ↦ rw w.result-is (delete_made p now same _ after (ap (is_used now.set) (sym to) ∙ used ∙ there_where _ (λ h. never_ok _ _ (sym w.in-Ok.is ∙ c.remove.ensures.absent.1 h))) is_after)
      | in-Err w ↦ rw w.result-is (delete_empty p now same _ (ap (is_used now.set) (sym to) ∙ used ∙ c.remove.ensures.absent.0 (w.in-Err.is ∙ ap Err (only_absent _ (λ q. c.remove.ensures.never_used (w.in-Err.is ∙ ap Err q))))))
    ]
