use Rattle.dc_block_sound.proofs.ControlSound.{picked_sound}
use Rattle.dc_block_sound.proofs.picked_is_ready.Goals as goal

pub returns : goal.returns
returns c = picked_sound
