use Rattle.dc_sound.proofs.EntryKinds.{core_step-kind}
use Rattle.dc_sound.proofs.Naming.{naming_kept}
use Rattle.dc_sound.proofs.names_stay.Goals as goal

pub returns : goal.returns
returns c = λ s polls who a chs e g p settled. naming_kept s chs e p settled (core_step-kind s polls who a chs e g)
