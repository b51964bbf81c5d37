use Rattle.std.specs.Prelude.{◌≡◌}
use Rattle.dc_hands.specs.Holding.{GoesOn}
use Rattle.dc_crew.specs.ScriptWorks.{WorksScript}
use Rattle.dc_rests.proofs.last_polls.poll_last.Given as goal

abbrev pub invariant-loop : goal.invariant-loop
invariant-loop g l = record {
  may_go : (goal.iterator-loop g).can_next l.iterator' × (goal.iterator-loop g).is_finite l.iterator';
  work : WorksScript l.stage l.pass l.log l.hand;
  on : GoesOn l.initial.pass l.pass;
  log : l.log ≡ l.initial.log;
}
