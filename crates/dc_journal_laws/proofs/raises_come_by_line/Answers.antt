use Rattle.dc_journal_laws.proofs.Raising.{raised_as_said, raised_by_line, no_raise_left_out, raised_after_commands, answered_after_raises}
use Rattle.dc_journal_laws.proofs.raises_come_by_line.Goals as goal

pub returns-clause-as_said : goal.returns-clause-as_said
returns-clause-as_said c = raised_as_said

pub returns-clause-by_line : goal.returns-clause-by_line
returns-clause-by_line c = raised_by_line

pub returns-clause-none_left_out : goal.returns-clause-none_left_out
returns-clause-none_left_out c = no_raise_left_out

pub returns-clause-after_commands : goal.returns-clause-after_commands
returns-clause-after_commands c = raised_after_commands

pub returns-clause-before_commands : goal.returns-clause-before_commands
returns-clause-before_commands c = answered_after_raises
