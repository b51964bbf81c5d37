use Rattle.dc_block_sound.proofs.ControlSound.{slice_sound}
use Rattle.dc_block_sound.proofs.slices_keep_controls.Goals as goal

pub returns : goal.returns
returns c = slice_sound
