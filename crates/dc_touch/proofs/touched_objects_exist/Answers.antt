use Rattle.dc_touch.proofs.ExistingNumbers.{touched_there, touched_named, touched_apart, touched_numbered}
use Rattle.dc_touch.proofs.touched_objects_exist.Goals as goal

pub returns-clause-there : goal.returns-clause-there
returns-clause-there c = touched_there

pub returns-clause-named : goal.returns-clause-named
returns-clause-named c = touched_named

pub returns-clause-apart : goal.returns-clause-apart
returns-clause-apart c = touched_apart

pub returns-clause-numbered : goal.returns-clause-numbered
returns-clause-numbered c = touched_numbered
