use Rattle.dc_journal_laws.proofs.Answering.{made_by_who_may, answered_by_line, none_left_out, answered_once, routed_as_said, met_with_enough, unmet_with_fewer}
use Rattle.dc_journal_laws.proofs.commands_are_answered_by_line.Goals as goal

pub returns-clause-makers : goal.returns-clause-makers
returns-clause-makers c = made_by_who_may

pub returns-clause-by_line : goal.returns-clause-by_line
returns-clause-by_line c = answered_by_line

pub returns-clause-none_left_out : goal.returns-clause-none_left_out
returns-clause-none_left_out c = none_left_out

pub returns-clause-once : goal.returns-clause-once
returns-clause-once c = answered_once

pub returns-clause-routed : goal.returns-clause-routed
returns-clause-routed c = routed_as_said

pub returns-clause-met : goal.returns-clause-met
returns-clause-met c = met_with_enough

pub returns-clause-unmet : goal.returns-clause-unmet
returns-clause-unmet c = unmet_with_fewer
