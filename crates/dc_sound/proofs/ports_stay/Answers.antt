use Rattle.dc_sound.proofs.EntryKinds.{core_step-kind}
use Rattle.dc_sound.proofs.BlockParts.{ports_kept}
use Rattle.dc_sound.proofs.ports_stay.Goals as goal

pub returns : goal.returns
returns c = λ s polls who a chs e g p. ports_kept s chs e (core_step-kind s polls who a chs e g) p
