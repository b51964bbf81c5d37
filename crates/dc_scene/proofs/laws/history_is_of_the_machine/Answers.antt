use Rattle.dc_scene.proofs.Runs.{sizes_after, to_machine, to_scene, object_after}
use Rattle.dc_scene.proofs.laws.history_is_of_the_machine.Goals as goal

pub returns-clause-lawful : goal.returns-clause-lawful
returns-clause-lawful g c = λ m z log. (to_machine m.settings m.start m.start log, to_scene m.settings m.start m.start z log)

pub returns-clause-sizes : goal.returns-clause-sizes
returns-clause-sizes g c = λ m. sizes_after m.settings m.start

pub returns-clause-object : goal.returns-clause-object
returns-clause-object g c = λ m. object_after m.settings m.start
