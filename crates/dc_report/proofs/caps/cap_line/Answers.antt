use Rattle.dc_report.proofs.Readings.{slot_line}
use Rattle.dc_report.proofs.caps.cap_line.Goals as goal

pub returns : goal.returns
returns g c = slot_line c.args.b c.args.slot.0 c.in_ok-cap.cap c.parent.result c.args.block.now.control.parts.caps c.in_ok-cap.ensures.value c.parent.ensures
