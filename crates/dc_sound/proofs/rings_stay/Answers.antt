use Rattle.dc_sound.proofs.EntryKinds.{core_step-kind}
use Rattle.dc_sound.proofs.BlockParts.{pending_is_short}
use Rattle.dc_sound.proofs.Outsides.{rings_kept}
use Rattle.dc_sound.proofs.rings_stay.Goals as goal

pub returns : goal.returns
returns c = λ s polls who a chs e g p words shapes named lines counted form settled. rings_kept s chs e p words shapes named (pending_is_short s lines counted form settled) (core_step-kind s polls who a chs e g)
