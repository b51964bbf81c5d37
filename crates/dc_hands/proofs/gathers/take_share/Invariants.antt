use Rattle.std.proofs.Common.{◌≡◌}
use Rattle.dc_hands.specs.Gathering.{GoesQuietly, HoldsFirst}
use Rattle.dc_hands.proofs.gathers.take_share.Given as goal

abbrev pub invariant-loop-i : goal.invariant-loop-i
invariant-loop-i g l = record {
  first : HoldsFirst l.stage l.pass l.hand l.i;
  quiet : GoesQuietly l.initial.pass l.pass;
  number : l.hand.number ≡ l.initial.hand.number;
  core : l.hand.core ≡ l.initial.hand.core;
}
