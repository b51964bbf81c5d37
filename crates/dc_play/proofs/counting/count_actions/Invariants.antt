use Rattle.dc_objects.specs.States.{state_of}
use Rattle.dc_play.specs.Counting.{IsCounting}
use Rattle.dc_play.proofs.counting.count_actions.Given as goal

-- the actions before this one were made and counted
abbrev pub invariant-loop-i : goal.invariant-loop-i
invariant-loop-i g l = IsCounting (state_of l.initial.objects) l.schedule l.i (state_of l.objects) l.polls l.counts.entries l.counts.skipped
