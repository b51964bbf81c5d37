use Rattle.std.proofs.Common.{refl}
use Rattle.dc_logs.proofs.ActorLogs.{log_new}
use Rattle.dc_logs.proofs.logs.new_logs_are_empty.Goals as goal

pub returns-clause-start : goal.returns-clause-start
returns-clause-start c = λ a. refl

pub returns-clause-none : goal.returns-clause-none
returns-clause-none c = log_new
