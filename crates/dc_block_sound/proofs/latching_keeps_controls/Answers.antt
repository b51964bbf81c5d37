use Rattle.dc_block_sound.proofs.ControlSound.{latching_sound}
use Rattle.dc_block_sound.proofs.latching_keeps_controls.Goals as goal

pub returns : goal.returns
returns c = latching_sound
