use Rattle.dc_sound.proofs.EntryKinds.{core_step-kind}
use Rattle.dc_sound.proofs.Waiting.{standing_kept}
use Rattle.dc_sound.proofs.waiters_stay.Goals as goal

pub returns : goal.returns
returns c = λ s polls who a chs e g p ready. standing_kept s chs e p ready (core_step-kind s polls who a chs e g)
