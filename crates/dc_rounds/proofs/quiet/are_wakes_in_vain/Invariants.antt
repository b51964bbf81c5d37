use Rattle.std.proofs.Common.{◌≡◌}
use Rattle.dc_hands.specs.Holding.{GoesOn}
use Rattle.dc_rounds.specs.Working.{IsStill, TriedDisps, WorksCore}
use Rattle.dc_rounds.proofs.quiet.are_wakes_in_vain.Given as goal

abbrev pub invariant-loop-d : goal.invariant-loop-d
invariant-loop-d g l = record {
  work : WorksCore l.stage l.pass l.log l.hand;
  on : GoesOn l.initial.pass l.pass;
  room : l.log.room ≡ l.initial.log.room;
  still : IsStill l.initial.pass l.pass l.initial.hand l.hand;
  tried : TriedDisps l.stage l.pass l.hand l.b.0 l.d;
}
