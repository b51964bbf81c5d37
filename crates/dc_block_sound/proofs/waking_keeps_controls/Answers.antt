use Rattle.dc_block_sound.proofs.ControlSound.{waking_sound}
use Rattle.dc_block_sound.proofs.waking_keeps_controls.Goals as goal

pub returns : goal.returns
returns c = waking_sound
