use Rattle.dc_sound.proofs.EntryKinds.{core_step-kind}
use Rattle.dc_sound.proofs.NumbersKept.{numbers_kept}
use Rattle.dc_sound.proofs.timer_numbers_stay_bounded.Goals as goal

pub returns : goal.returns
returns c = λ s polls who a changes e g p. numbers_kept s changes e (core_step-kind s polls who a changes e g) p
