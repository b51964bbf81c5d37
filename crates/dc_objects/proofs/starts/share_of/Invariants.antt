use Rattle.dc_objects.proofs.StartMembers.{AreMembers}
use Rattle.dc_objects.proofs.starts.share_of.Given as goal

abbrev pub invariant-loop-at : goal.invariant-loop-at
invariant-loop-at l = AreMembers l.c l.blocks l.at l.share
