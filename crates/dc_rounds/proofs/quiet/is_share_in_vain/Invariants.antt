use Rattle.std.proofs.Common.{◌≡◌}
use Rattle.dc_hands.specs.Holding.{GoesOn}
use Rattle.dc_rounds.specs.Working.{IsStill, TriedShare, WorksCore}
use Rattle.dc_rounds.proofs.quiet.is_share_in_vain.Given as goal

abbrev pub invariant-loop-i : goal.invariant-loop-i
invariant-loop-i g l = record {
  work : WorksCore l.stage l.pass l.log l.hand;
  on : GoesOn l.initial.pass l.pass;
  room : l.log.room ≡ l.initial.log.room;
  still : IsStill l.initial.pass l.pass l.initial.hand l.hand;
  tried : TriedShare l.stage l.pass l.hand l.i;
}
