use Rattle.std.proofs.Common.{sym, ◌∙◌}
use Rattle.dc_report.proofs.PartLaws.{slot_told, slot_empty, caps_over}
use Rattle.dc_report.proofs.Telling.{instead}
use Rattle.dc_report.proofs.caps.cap.Goals as goal

pub returns-in-Some : goal.returns-in-Some
returns-in-Some g c = sym c.loop-slot.invariant ∙ slot_told c.args.b c.args.block.now c.loop-slot.slot c.in-Some.line c.requires.caps c.in-Some.ensures

pub loop-slot-preserved : goal.loop-slot-preserved
loop-slot-preserved g c = sym (slot_empty c.args.b c.args.block.now c.loop-slot.slot c.in_default.ensures) ∙ c.loop-slot.invariant

pub returns : goal.returns
returns g c = instead _ _ _ _ (sym c.loop-slot.invariant ∙ caps_over c.args.b c.args.block.now c.loop-slot.slot c.requires.shape c.requires.caps c.loop-slot-test.false) c.timer.ensures
