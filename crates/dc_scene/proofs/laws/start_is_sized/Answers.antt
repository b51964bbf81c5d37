use Rattle.dc_scene.proofs.Starts.{start_sizes, start_few}
use Rattle.dc_scene.proofs.laws.start_is_sized.Goals as goal

pub returns-clause-sizes : goal.returns-clause-sizes
returns-clause-sizes c = start_sizes

pub returns-clause-few : goal.returns-clause-few
returns-clause-few c = start_few
