use Rattle.std.proofs.Common.{length}
use Rattle.dc_isa.proofs.operands.+operands_sum.Given as goal

abbrev pub decreases-operands_sum : goal.decreases-operands_sum
decreases-operands_sum l = length l.kinds.now
