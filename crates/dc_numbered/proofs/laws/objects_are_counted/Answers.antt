use Rattle.dc_numbered.proofs.Totals.{objects_by_kind, objects_by_sizes, objects_few}
use Rattle.dc_numbered.proofs.laws.objects_are_counted.Goals as goal

pub returns-clause-kinds : goal.returns-clause-kinds
returns-clause-kinds c = objects_by_kind

pub returns-clause-sizes : goal.returns-clause-sizes
returns-clause-sizes c = objects_by_sizes

pub returns-clause-few : goal.returns-clause-few
returns-clause-few c = objects_few
