use Rattle.dc_sound.proofs.SoundKept.{run_sound}
use Rattle.dc_sound.proofs.runs_stay_sound.Goals as goal

pub returns : goal.returns
returns c = λ opening schedule p. run_sound opening schedule p
