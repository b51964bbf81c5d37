use Rattle.dc_logs.proofs.Beginnings.{prefix_whole, prefix_both}
use Rattle.dc_logs.proofs.prefixes.prefixes_of_one_length.Goals as goal

pub returns-clause-whole : goal.returns-clause-whole
returns-clause-whole c = prefix_whole

pub returns-clause-both : goal.returns-clause-both
returns-clause-both c = prefix_both
