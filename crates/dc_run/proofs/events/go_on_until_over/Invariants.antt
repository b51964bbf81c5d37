use Rattle.dc_run.specs.Going.{IsGoing}
use Rattle.dc_run.proofs.events.go_on_until_over.Given as goal

abbrev pub invariant-loop : goal.invariant-loop
invariant-loop g l = record {
  may_go : (goal.iterator-loop g).can_next l.iterator' × (goal.iterator-loop g).is_finite l.iterator';
  going : IsGoing l.stage l.home;
}
