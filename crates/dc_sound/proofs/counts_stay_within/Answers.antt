use Rattle.dc_sound.proofs.EntryKinds.{core_step-kind}
use Rattle.dc_sound.proofs.Counted.{counted_kept}
use Rattle.dc_sound.proofs.counts_stay_within.Goals as goal

pub returns : goal.returns
returns c = λ s polls who a changes e g p. counted_kept s changes e (core_step-kind s polls who a changes e g) p
