use Rattle.dc_isa.proofs.Tables.{found_if_some}
use Rattle.dc_isa.proofs.operations.operation_of.Goals as goal

pub returns-clause-fits : goal.returns-clause-fits
returns-clause-fits c = found_if_some c.args.name.now c.all_operations.result.now c.find_named.result c.all_operations.ensures.fit c.find_named.ensures
