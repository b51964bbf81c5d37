use Rattle.dc_logs.proofs.Marks.{marked_snoc}
use Rattle.dc_logs.proofs.logs.marks_grow.Goals as goal

pub returns : goal.returns
returns c = marked_snoc
