use Rattle.dc_sound.proofs.EntryKinds.{core_step-kind}
use Rattle.dc_sound.proofs.InForm.{form_kept}
use Rattle.dc_sound.proofs.progress_stays.Goals as goal

pub returns : goal.returns
returns c = λ s polls who a chs e g p. form_kept s chs e p (core_step-kind s polls who a chs e g)
