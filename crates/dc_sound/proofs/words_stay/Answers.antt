use Rattle.dc_sound.proofs.EntryKinds.{core_step-kind}
use Rattle.dc_sound.proofs.BlockParts.{words_kept, pending_is_short}
use Rattle.dc_sound.proofs.words_stay.Goals as goal

pub returns : goal.returns
returns c = λ s polls who a chs e g p shapes named rings lines counted form settled. words_kept s chs e (core_step-kind s polls who a chs e g) p shapes named rings (pending_is_short s lines counted form settled)
