use Rattle.dc_sound.proofs.EntryKinds.{core_step-kind}
use Rattle.dc_sound.proofs.Registered.{registered_kept}
use Rattle.dc_sound.proofs.registry_follows.Goals as goal

pub returns : goal.returns
returns c = λ s polls who a changes e g p placed shares follow fit form settled. registered_kept s changes e placed shares follow fit form settled p (core_step-kind s polls who a changes e g)
