use Rattle.dc_journal_laws.proofs.Booting.{refused_by_table, posted_in_order, done_in_full}
use Rattle.dc_journal_laws.proofs.boot_commands_follow_the_table.Goals as goal

pub returns-clause-refused : goal.returns-clause-refused
returns-clause-refused c = refused_by_table

pub returns-clause-posted : goal.returns-clause-posted
returns-clause-posted c = posted_in_order

pub returns-clause-done : goal.returns-clause-done
returns-clause-done c = done_in_full
