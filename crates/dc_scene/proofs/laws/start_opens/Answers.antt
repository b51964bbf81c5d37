use Rattle.dc_scene.proofs.Starts.{held_start}
use Rattle.dc_scene.proofs.laws.start_opens.Goals as goal

pub returns : goal.returns
returns g c = λ m z held. held_start m.settings m.start z held
