use Rattle.dc_block_sound.proofs.ControlSound.{start_sound_control}
use Rattle.dc_block_sound.proofs.started_controls_are_sound.Goals as goal

pub returns : goal.returns
returns c = start_sound_control
