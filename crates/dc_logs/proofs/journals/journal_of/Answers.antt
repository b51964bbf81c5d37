use Rattle.dc_logs.proofs.Merges.{merge_below, merge_once, journal_is}
use Rattle.dc_logs.proofs.journals.journal_of.Goals as goal

pub merge-requires-clause-below : goal.merge-requires-clause-below
merge-requires-clause-below c = merge_below c.requires.0 c.requires.1 c.args.logs.items c.requires.2

pub merge-requires-clause-once : goal.merge-requires-clause-once
merge-requires-clause-once c = merge_once c.requires.0 c.requires.1 c.args.logs.items c.requires.2

pub returns : goal.returns
returns c = journal_is c.args.logs.items c.merge.result c.merge.ensures.count c.merge.ensures.places
