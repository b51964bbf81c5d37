use Rattle.std.proofs.Common.{◌≡◌, refl, Err, sym, ap, true, false, Some, arith}
use Rattle.dc_mdb.specs.Forests.{has_slot}
use Rattle.dc_caps.specs.Caps.{Caps}
use Rattle.dc_caps.proofs.Changing.{put_now, put_kept, child_answer, put_where, both_true, never_ok}
use Rattle.dc_caps.proofs.table.Table.graft.Goals.{In-Ok}
use Rattle.dc_caps.proofs.table.Table.graft.Goals as goal

places : (c : In-Ok) → (has_slot c.self.inside.forest c.args.parent.0 ≡ true) × (has_slot c.self.inside.forest c.args.s.0 ≡ false)
places c = put_where _ _ (λ h. never_ok _ _ (c.in-Ok.ensures.absent.1 h)) (λ h. never_ok _ _ (c.in-Ok.ensures.used.1 h))

pub invariant_of-self : goal.invariant_of-self
invariant_of-self c = put_kept c.self.inside c.args.self.now c.self.view_is c.self.invariant c.child.new.self c.args.s.0 c.args.cap (Some c.args.parent.0) c.in-Ok.ensures.ok c.requires.cap c.requires.slot

pub returns-in-Ok-clause-answer : goal.returns-in-Ok-clause-answer
returns-in-Ok-clause-answer c =
    let p = places (goal.at.returns-in-Ok-clause-answer c).In-Ok in
    sym (child_answer c.self.inside c.args.self.now c.self.view_is c.args.parent.0 c.args.s.0 true false p.0 p.1)

pub returns-in-Ok-clause-ok : goal.returns-in-Ok-clause-ok
returns-in-Ok-clause-ok c =
    let p = places (goal.at.returns-in-Ok-clause-ok c).In-Ok in
    let d : c.self.inside.disps ≡ c.args.self.now.disps = ap (λ (t : Caps). t.disps) c.self.view_is in
    put_now c.self.inside c.args.self.now c.self.view_is c.child.new.self c.args.s.0 c.args.cap (Some c.args.parent.0) c.in-Ok.ensures.ok (omega (arith, d)) p.1

pub returns-in-Err-Absent-clause-answer : goal.returns-in-Err-Absent-clause-answer
returns-in-Err-Absent-clause-answer c =
    sym (child_answer c.self.inside c.args.self.now c.self.view_is c.args.parent.0 c.args.s.0 false _ (c.in-Err-Absent.ensures.absent.0 (ap Err c.in-Err-Absent.field-0-is)) refl)

pub returns-in-Err-Used-clause-answer : goal.returns-in-Err-Used-clause-answer
returns-in-Err-Used-clause-answer c =
    let p = both_true _ _ (c.in-Err-Used.ensures.used.0 (ap Err c.in-Err-Used.field-0-is)) in
    sym (child_answer c.self.inside c.args.self.now c.self.view_is c.args.parent.0 c.args.s.0 true true p.0 p.1)
