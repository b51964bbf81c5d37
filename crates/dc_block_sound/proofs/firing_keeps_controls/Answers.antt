use Rattle.dc_block_sound.proofs.ControlSound.{firing_sound}
use Rattle.dc_block_sound.proofs.firing_keeps_controls.Goals as goal

pub returns : goal.returns
returns c = firing_sound
