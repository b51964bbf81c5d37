use Rattle.dc_logs.proofs.ActorLogs.{log_count}
use Rattle.dc_logs.proofs.logs.logs_are_counted.Goals as goal

pub returns : goal.returns
returns c = log_count
