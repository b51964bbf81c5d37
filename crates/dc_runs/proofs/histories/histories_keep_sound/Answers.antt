use Rattle.dc_runs.proofs.Beginnings.{kept_sound}
use Rattle.dc_runs.proofs.histories.histories_keep_sound.Goals as goal

pub returns : goal.returns
returns c = kept_sound c.entries_keep_sound.ensures
