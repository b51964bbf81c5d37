use Rattle.std.proofs.Common.{◌≡◌}
use Rattle.dc_hands.specs.Holding.{GoesOn}
use Rattle.dc_rounds.specs.Working.{IsStill, TriedLines, WorksCore}
use Rattle.dc_rounds.proofs.quiet.are_intakes_in_vain.Given as goal

abbrev pub invariant-loop-l : goal.invariant-loop-l
invariant-loop-l g l = record {
  work : WorksCore l.stage l.pass l.log l.hand;
  on : GoesOn l.initial.pass l.pass;
  room : l.log.room ≡ l.initial.log.room;
  still : IsStill l.initial.pass l.pass l.initial.hand l.hand;
  tried : TriedLines l.stage l.pass l.hand.number.0 l.l;
}
