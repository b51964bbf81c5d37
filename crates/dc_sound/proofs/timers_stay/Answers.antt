use Rattle.dc_sound.proofs.EntryKinds.{core_step-kind}
use Rattle.dc_sound.proofs.BlockParts.{timers_kept}
use Rattle.dc_sound.proofs.timers_stay.Goals as goal

pub returns : goal.returns
returns c = λ s polls who a chs e g p. timers_kept s chs e (core_step-kind s polls who a chs e g) p
