use Rattle.dc_logs.proofs.ActorLogs.{each_later}
use Rattle.dc_logs.proofs.logs.logs_stay_together.Goals as goal

pub returns : goal.returns
returns c = each_later
