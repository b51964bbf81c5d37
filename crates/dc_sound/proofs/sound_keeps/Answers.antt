use Rattle.dc_sound.proofs.EntryKinds.{core_step-kind}
use Rattle.dc_sound.proofs.SoundKept.{sound_kept}
use Rattle.dc_sound.proofs.sound_keeps.Goals as goal

pub returns : goal.returns
returns c = λ s polls who a changes e p g. sound_kept s changes e p (core_step-kind s polls who a changes e g)
