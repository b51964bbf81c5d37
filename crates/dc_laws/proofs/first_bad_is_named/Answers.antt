use Rattle.dc_base.specs.Runs.{terms_of, seen_start, run, first_bad}
use Rattle.dc_base.proofs.RunLaws.{run_from-none_bad, bad_from-run}
use Rattle.dc_laws.proofs.FirstBadLaws.{first_bad-named}
use Rattle.dc_laws.proofs.first_bad_is_named.Goals as goal

pub returns-clause-none : goal.returns-clause-none
unfolding first_bad run
returns-clause-none c = λ image script journal.
    (run_from-none_bad (terms_of image) script 0 (seen_start image script) journal, bad_from-run (terms_of image) script 0 (seen_start image script) journal)

pub returns-clause-some : goal.returns-clause-some
returns-clause-some c = first_bad-named
