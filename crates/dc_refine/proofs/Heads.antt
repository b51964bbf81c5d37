-- One name for each group of definitions that proofs open together.
use Rattle.dc_base.specs.StrikeOut.{events_of, core_events, told_after}
use Rattle.dc_base.specs.Columns.{columns_agree, core_agrees}
use Rattle.dc_base.specs.ScriptColumns.{script_agrees}
use Rattle.dc_base.specs.Holders.{well_held, held_after, held_after_core, holds_for}
use Rattle.dc_base.specs.Answers.{answered_after, core_answer, script_answer}

-- what an entry's events are
unfoldable pub events_open : Unit {0}
unfolding events_of core_events
events_open = tt

-- what its columns must show
unfoldable pub columns_open : Unit {0}
unfolding columns_agree core_agrees script_agrees
columns_open = tt

-- what it needs of who holds what
unfoldable pub held_open : Unit {0}
unfolding well_held held_after held_after_core holds_for
held_open = tt

-- what it tells
unfoldable pub told_open : Unit {0}
unfolding told_after held_after held_after_core
told_open = tt

-- how the script is answered after it
unfoldable pub answer_open : Unit {0}
unfolding answered_after core_answer script_answer
answer_open = tt
