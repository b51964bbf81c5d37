use Rattle.std.proofs.Common.{◌≡◌, length}
use Rattle.dc_hands.specs.Gathering.{HoldsRow}
use Rattle.dc_hands.proofs.Gathered.{holding_only}
use Rattle.dc_hands.proofs.gathers.put_blocks.Given as goal

abbrev pub invariant-loop-last : goal.invariant-loop-last
invariant-loop-last g l = record {
  same : l.pass ≡ holding_only l.initial.pass l.pass.holds;
  number : l.hand.number ≡ l.initial.hand.number;
  core : l.hand.core ≡ l.initial.hand.core;
  row : HoldsRow l.stage l.pass l.hand;
}

abbrev pub decreases-loop-last : goal.decreases-loop-last
decreases-loop-last g l = length l.hand.row.numbers
