use Rattle.dc_rests.proofs.InHand.{HasWaited}
use Rattle.dc_rests.proofs.in_hand.take_up.Given as goal

abbrev pub invariant-loop : goal.invariant-loop
invariant-loop g l = record {
  may_go : (goal.iterator-loop g).can_next l.iterator' × (goal.iterator-loop g).is_finite l.iterator';
  waited : HasWaited l.initial.pass l.pass;
}
