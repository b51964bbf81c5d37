use Rattle.dc_sound.proofs.EntryKinds.{core_step-kind}
use Rattle.dc_sound.proofs.BlockParts.{pending_is_short}
use Rattle.dc_sound.proofs.Outsides.{consoles_kept}
use Rattle.dc_sound.proofs.consoles_stay.Goals as goal

pub returns : goal.returns
returns c = λ s polls who a chs e g p words shapes named rings lines counted form settled. consoles_kept s chs e p words shapes named rings (pending_is_short s lines counted form settled) (core_step-kind s polls who a chs e g)
