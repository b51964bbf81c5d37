use Rattle.dc_scene.proofs.Numbering.{at_objects, objects_count}
use Rattle.dc_scene.proofs.laws.objects_are_numbered.Goals as goal

pub returns-clause-each : goal.returns-clause-each
returns-clause-each c = at_objects

pub returns-clause-count : goal.returns-clause-count
returns-clause-count c = objects_count
