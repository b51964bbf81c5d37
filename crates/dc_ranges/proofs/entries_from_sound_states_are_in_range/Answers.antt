use Rattle.dc_ranges.proofs.RunEntries.{run_in}
use Rattle.dc_ranges.proofs.entries_from_sound_states_are_in_range.Goals as goal

pub returns-clause-lines : goal.returns-clause-lines
returns-clause-lines c = λ opening schedule sound. (run_in c.sound_keeps.ensures opening schedule sound).lined

pub returns-clause-ranges : goal.returns-clause-ranges
returns-clause-ranges c = λ opening schedule sound. (run_in c.sound_keeps.ensures opening schedule sound).low
