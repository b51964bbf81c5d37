use Rattle.dc_base.specs.CoreRuns.{core_run}
use Rattle.dc_base.specs.States.{core_start}
use Rattle.dc_ranges.proofs.entries_are_in_range.Goals as goal

pub returns-clause-lines : goal.returns-clause-lines
unfolding core_run
returns-clause-lines c = λ image script schedule valid lines. c.entries_from_sound_states_are_in_range.ensures.lines (core_start image script) schedule (c.the_start_is_sound.ensures image script valid lines)

pub returns-clause-ranges : goal.returns-clause-ranges
unfolding core_run
returns-clause-ranges c = λ image script schedule valid lines. c.entries_from_sound_states_are_in_range.ensures.ranges (core_start image script) schedule (c.the_start_is_sound.ensures image script valid lines)
