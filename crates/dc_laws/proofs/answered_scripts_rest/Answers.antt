use Rattle.dc_laws.proofs.ScriptRests.{no_command_left, no_raise_left}
use Rattle.dc_laws.proofs.answered_scripts_rest.Goals as goal

pub returns-clause-ended : goal.returns-clause-ended
returns-clause-ended c = no_command_left

pub returns-clause-no_raise : goal.returns-clause-no_raise
returns-clause-no_raise c = no_raise_left
