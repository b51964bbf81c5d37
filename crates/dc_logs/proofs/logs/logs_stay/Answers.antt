use Rattle.dc_logs.proofs.ActorLogs.{log_later}
use Rattle.dc_logs.proofs.logs.logs_stay.Goals as goal

pub returns : goal.returns
returns c = log_later
