use Rattle.dc_sound.proofs.EntryKinds.{core_step-kind}
use Rattle.dc_sound.proofs.LineSlices.{lines_kept}
use Rattle.dc_sound.proofs.lines_stay.Goals as goal

pub returns : goal.returns
returns c = λ s polls who a chs e g p shapes caps. lines_kept s chs e p shapes caps (core_step-kind s polls who a chs e g)
