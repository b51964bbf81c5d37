use Rattle.dc_logs.proofs.Marks.{marked_kept}
use Rattle.dc_logs.proofs.logs.marks_stay.Goals as goal

pub returns : goal.returns
returns c = marked_kept
