use Rattle.dc_sound.proofs.EntryKinds.{core_step-kind}
use Rattle.dc_sound.proofs.TimesKept.{clocked_kept}
use Rattle.dc_sound.proofs.clocks_stay_bounded.Goals as goal

pub returns : goal.returns
returns c = λ s polls who a chs e g p d placed fit settled. clocked_kept s chs e p d placed fit settled (core_step-kind s polls who a chs e g)
