use Rattle.dc_timers.proofs.Shifts.{empty-buckets}
use Rattle.dc_timers.proofs.buckets.Buckets.empty.Goals as goal

pub invariant_of-result : goal.invariant_of-result
invariant_of-result c = empty-buckets c.new.result.items c.new.ensures
