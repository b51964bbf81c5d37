use Rattle.std.proofs.Common.{◌≡◌}
use Rattle.dc_hands.specs.Holding.{GoesOn}
use Rattle.dc_rounds.specs.Working.{WorksCore}
use Rattle.dc_rounds.proofs.rounds.wake_block.Given as goal

abbrev pub invariant-loop-d : goal.invariant-loop-d
invariant-loop-d g l = record {
  work : WorksCore l.stage l.pass l.log l.hand;
  on : GoesOn l.initial.pass l.pass;
  room : l.log.room ≡ l.initial.log.room;
  number : l.hand.number ≡ l.initial.hand.number;
}
