use Rattle.dc_sound.proofs.EntryKinds.{core_step-kind}
use Rattle.dc_sound.proofs.BlockParts.{dispatchers_kept}
use Rattle.dc_sound.proofs.dispatchers_stay.Goals as goal

pub returns : goal.returns
returns c = λ s polls who a chs e g p. dispatchers_kept s chs e (core_step-kind s polls who a chs e g) p
