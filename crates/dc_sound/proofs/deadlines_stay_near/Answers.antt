use Rattle.dc_sound.proofs.EntryKinds.{core_step-kind}
use Rattle.dc_sound.proofs.DeadlinesKept.{deadlines_kept}
use Rattle.dc_sound.proofs.deadlines_stay_near.Goals as goal

pub returns : goal.returns
returns c = λ s polls who a changes e g p words clocked placed fit settled. deadlines_kept s changes e (core_step-kind s polls who a changes e g) p words clocked placed fit settled
