use Rattle.std.proofs.Common.{◌≡◌, List, vec_capacity}
use Rattle.dc_hands.specs.Holding.{GoesOn}
use Rattle.dc_crew.specs.declared.seats.Seat.{Seat}
use Rattle.dc_crew.specs.Laters.{Pairs}
use Rattle.dc_crew.specs.ScriptWorks.{GrowsQuietly, WorksScript}
use Rattle.dc_crew.specs.Started.{IsStarted}
use Rattle.dc_crew.proofs.script_work.go_on.Given as goal

abbrev pub invariant-loop : goal.invariant-loop
invariant-loop g l = record {
  may_go : (goal.iterator-loop g).can_next l.iterator' × (goal.iterator-loop g).is_finite l.iterator';
  work : WorksScript l.stage l.pass l.log l.hand;
  on : GoesOn l.initial.pass l.pass;
  log : GrowsQuietly l.initial.log l.log;
  still : (seats : List Seat) → Pairs (IsStarted l.stage) seats l.initial.started.items → Pairs (IsStarted l.stage) seats l.started.items;
  room : vec_capacity l.started ≡ vec_capacity l.initial.started;
}
