use Rattle.std.proofs.Common.{◌≡◌, Err, sym, ◌∙◌, ap, true, false, None, arith}
use Rattle.dc_base.specs.Capabilities.{with_root}
use Rattle.dc_mdb.specs.Forests.{has_slot}
use Rattle.dc_caps.specs.Outcomes.{answer_of, root_fault}
use Rattle.dc_caps.proofs.Changing.{put_now, put_kept, root_answer, free_where, only_used, never_ok}
use Rattle.dc_caps.proofs.table.Table.seat.Goals.{In-Ok}
use Rattle.dc_caps.proofs.table.Table.seat.Goals as goal

free : (c : In-Ok) → has_slot c.self.inside.forest c.slot_of-slot.result.0 ≡ false
free c = free_where _ (λ h. never_ok _ _ (c.in-Ok.ensures.used.1 h))

pub invariant_of-self : goal.invariant_of-self
invariant_of-self c = put_kept c.self.inside c.args.self.now c.self.view_is c.self.invariant c.root.new.self c.slot_of-slot.result.0 c.args.cap None c.in-Ok.ensures.ok c.requires.cap c.slot_of-slot.ensures.own

pub returns-in-Ok-clause-answer : goal.returns-in-Ok-clause-answer
returns-in-Ok-clause-answer c =
    let h = free (goal.at.returns-in-Ok-clause-answer c).In-Ok in
    sym (ap (λ s. answer_of (root_fault c.args.self.now.set s)) (sym c.slot_of-slot.ensures.value) ∙ root_answer c.self.inside c.args.self.now c.self.view_is c.slot_of-slot.result.0 false h)

pub returns-in-Ok-clause-ok : goal.returns-in-Ok-clause-ok
returns-in-Ok-clause-ok c =
    let h = free (goal.at.returns-in-Ok-clause-ok c).In-Ok in
    put_now c.self.inside c.args.self.now c.self.view_is c.root.new.self c.slot_of-slot.result.0 c.args.cap None c.in-Ok.ensures.ok (omega arith) h
    ∙ ap (λ s. record c.args.self.now { set = with_root s c.args.cap c.args.self.now.set }) c.slot_of-slot.ensures.value

pub returns-in-Err-clause-answer : goal.returns-in-Err-clause-answer
returns-in-Err-clause-answer c =
    let h = c.in-Err.ensures.used.0 (ap Err (only_used c.in-Err.field-0 (λ e. c.in-Err.ensures.never_absent (ap Err e)))) in
    sym (ap (λ s. answer_of (root_fault c.args.self.now.set s)) (sym c.slot_of-slot.ensures.value) ∙ root_answer c.self.inside c.args.self.now c.self.view_is c.slot_of-slot.result.0 true h)
