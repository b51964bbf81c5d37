use Rattle.dc_block_sound.proofs.ControlSound.{ahead_sound}
use Rattle.dc_block_sound.proofs.aheads_keep_controls.Goals as goal

pub returns : goal.returns
returns c = ahead_sound
