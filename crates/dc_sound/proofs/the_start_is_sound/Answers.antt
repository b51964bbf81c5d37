use Rattle.dc_sound.proofs.StartSound.{start_sound}
use Rattle.dc_sound.proofs.the_start_is_sound.Goals as goal

pub returns : goal.returns
returns c = start_sound
