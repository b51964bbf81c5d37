use Rattle.dc_sound.proofs.SoundKept.{entry_sound}
use Rattle.dc_sound.proofs.entries_keep_sound.Goals as goal

pub returns : goal.returns
returns c = λ s e p h. entry_sound s e p h
