use Rattle.dc_journal_laws.proofs.Booting.{made_by_cores_on}
use Rattle.dc_journal_laws.proofs.cores_are_on.Goals as goal

pub returns : goal.returns
returns c = made_by_cores_on
