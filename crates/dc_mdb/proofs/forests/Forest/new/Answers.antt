use Rattle.dc_mdb.proofs.Forested.{empty_forest}
use Rattle.dc_mdb.proofs.Counting.{none_counted}
use Rattle.dc_mdb.proofs.forests.Forest.new.Goals as goal

pub invariant_of-result : goal.invariant_of-result
invariant_of-result c = record { forest = empty_forest; counted = none_counted 256 }
